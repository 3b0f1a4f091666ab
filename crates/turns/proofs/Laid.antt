-- What an evaluation at the start of scratch rests on: what stands behind the surfaces laid there stays, and a job names slots that are there. Assumes nothing.
use mathlib.Core.Path.{◌≡◌, sym, ap, ◌∙◌}
use mathlib.Core.Bool.{true}
use mathlib.Core.List.{List, ◌++◌}
use Prim.Native.Nat.{ℕ, ◌-◌, ◌*◌, ◌≤◌}
use native.Mathlib.Omega.{arith}
use lib.Ieee.{Float, nan}
use lib.ListN.{length, get_or, take, drop, take-append-drop}
use lib.Seq.{length-take-le, get_or-take, drop-drop}
use Rattle.lists.specs.Tab.{tab, tab-same}
use Rattle.optics.specs.Flat.{laid_flat}
use Rattle.normal.specs.Layout.{scratch_length}
use Rattle.merit.specs.Steps.{SlotsKnown}
use Rattle.merit.proofs.CheckLaws.{slots-known}
use Rattle.jobs.specs.declared.types.Job.{Job}
use Rattle.jobs.specs.Checks.{job_taken}
use Rattle.jobs.specs.Passed.{passed}
use Rattle.held.specs.JobFrom.{standing}
use Rattle.held.specs.Standing.{Behind, whole, first-laid}
use Rattle.dls.specs.DampedSteps.{ScratchKept}

-- the first surfaces that stand at the start of numbers lie there
pub lies : (l : List Float) (n : ℕ) → n ≤ 16 → 64 ≤ length l → l ≡ laid_flat (standing l) n ++ drop (4 * n) l
lies l n few room = sym (ap (λ (p : List Float). p ++ drop (4 * n) l) (first-laid l n few ∙ taken) ∙ take-append-drop (4 * n) l)
  where
    taken : tab (λ (i : ℕ). get_or l i nan) (4 * n) ≡ take (4 * n) l
    taken = tab-same _ _ (4 * n) (λ i h. sym (get_or-take (4 * n) l i nan h)) ∙ whole (take (4 * n) l) nan (4 * n) (length-take-le (4 * n) l (omega arith))

-- what lies behind sixteen surfaces lies behind scratch too
pub behind-kept : {l l' : List Float} → Behind l l' → ScratchKept l l'
behind-kept {l} {l'} b = record { long = b.long; rest = sym (drop-drop more 64 l') ∙ ap (drop more) b.rest ∙ drop-drop more 64 l }
  where
    more : ℕ
    more = scratch_length - 64

-- the slots that the operands of a job that is taken name
pub operands-known : (job : Job) → job_taken job ≡ true → SlotsKnown job.merit_function
operands-known job e =
    let slots = job.prescription.slot_count in
    let f = job.merit_function in
    slots-known slots (passed job e).counted.slots f (passed job e).operands
