-- A case split that hands each branch what it knows.
use mathlib.Core.Logic.{◌⊎◌, inl, inr}

pub by-case : {A B X : Type 0} → A ⊎ B → (A → X) → (B → X) → X
by-case (inl a) l r = l a
by-case (inr b) l r = r b
