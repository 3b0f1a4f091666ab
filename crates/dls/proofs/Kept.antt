-- What a turn's calls leave of scratch. Assumes nothing.
use mathlib.Core.Path.{refl, ◌∙◌}
use mathlib.Core.Bool.{Bool}
use mathlib.Core.List.{List}
use Prim.Native.Nat.{ℕ}
use lib.Ieee.{Float}
use Rattle.normal.specs.Products.{Matrix, Vector}
use Rattle.normal.specs.Scratch.{Equations, Attempt}
use Rattle.normal.proofs.Kept.{equations-behind, attempt-behind}
use Rattle.dls.specs.DampedSteps.{ScratchKept}

pub kept_same : (l : List Float) → ScratchKept l l
kept_same l = record { long = refl; rest = refl }

pub kept_on : {l l' l'' : List Float} → ScratchKept l l' → ScratchKept l' l'' → ScratchKept l l''
kept_on a b = record { long = b.long ∙ a.long; rest = b.rest ∙ a.rest }

pub kept-equations : {m p : ℕ} {jacobian : Matrix} {residuals : Vector} {l l' : List Float} {r : Float} → Equations m p jacobian residuals l l' r
    → ScratchKept l l'
kept-equations e = record { long = e.long; rest = equations-behind _ _ _ _ _ _ _ e }

pub kept-attempt : {p : ℕ} {damping : Float} {l l' : List Float} {r : Bool} → Attempt p damping l l' r → ScratchKept l l'
kept-attempt a = record { long = a.long; rest = attempt-behind _ _ _ _ _ a }
