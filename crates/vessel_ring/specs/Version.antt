-- The version of the C interface, 100 for each major number and 1 for each minor one; VESSEL_VERSION of the header is the same.
use Rattle.std.specs.Prelude.{ℕ}

abbrev pub version : ℕ
version = 301
