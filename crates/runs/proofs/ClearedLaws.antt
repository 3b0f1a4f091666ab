-- "the first 128 entries are left +0.0, the rest now untouched" (request 11), entry by entry. Assumes nothing.
use Rattle.std.specs.Prelude.{◌≡◌, List, ℕ, ◌+◌, ◌-◌, ◌≤◌, ◌<◌, get_or, replicate, Float}
use Rattle.std.proofs.Common.{ap, ◌∙◌, arith, get_or-append-add, get_or-drop}
use Rattle.std.proofs.lemmas.List.{length-replicate, get_or-replicate}
use Rattle.std.proofs.Math.ListN.{get_or-append}
use Rattle.std.specs.Float.{nan}
use Rattle.floats.specs.Constants.{zero64}
use Rattle.runs.specs.Cleared.{untouched, cleared}

module _ (scratch : List Float) (i : ℕ) where
  pub zero-below : i < 128 → get_or (cleared scratch) i nan ≡ zero64
  zero-below h = get_or-append (replicate 128 zero64) (untouched scratch) nan i (rw (length-replicate 128 zero64) h) ∙ get_or-replicate 128 i zero64 nan h

  pub kept-past : 128 ≤ i → get_or (cleared scratch) i nan ≡ get_or scratch i nan
  kept-past h =
      let at : i ≡ 128 + (i - 128) = omega arith in
      let back : 128 + (i - 128) ≡ i = omega arith in
      ap (λ (k : ℕ). get_or (cleared scratch) k nan) at
      ∙ get_or-append-add (replicate 128 zero64) (untouched scratch) (i - 128) nan
      ∙ get_or-drop 128 scratch (i - 128) nan
      ∙ ap (λ (k : ℕ). get_or scratch k nan) back
