-- The lines of the report that document 01 shows are what the definitions say, by computation.
use mathlib.Core.Path.{refl}
use Rattle.text.specs.Digits.{digits, decimal, hex2, signed}
use Rattle.report.specs.Line.{record_fields, line_of, end_of}
use Rattle.report.specs.Examples.{AsShown}

pub as-shown : AsShown
unfolding digits decimal hex2 signed record_fields line_of end_of
as-shown = refl
