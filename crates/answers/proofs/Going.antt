-- The loop over lines, as far as it has come. Assumes nothing.
use Rattle.std.proofs.Common.{◌≡◌, ℕ, suc, ◌+◌, ◌-◌, ◌^◌, ◌&&◌, true, List, [], ◌∷◌, length, refl, sym, ap, ◌∙◌, add-one}
use Rattle.streams.specs.Input.{is_open}
use Rattle.answers.specs.Lines.{LineForm, Giving, Stand, Steps, OpenStep, LinesAnswered}

module _ {S : Type 0} (form : LineForm) (gives : Giving S) where
  -- so many steps
  pub record Going (s t : Stand S) (n : ℕ) : Type 0 where
    pub between : List (Stand S)
    pub steps : Steps (OpenStep form gives) s between t
    pub long : length between ≡ n

  pub begin : (s : Stand S) → Going s s 0
  begin s = record { between = []; steps = refl; long = refl }

  pub further : {s t u : Stand S} {n : ℕ} → Going s t n → OpenStep form gives t u → Going s u (n + 1)
  further {t = t} {n = n} g e = record { between = t ∷ g.between; steps = (g.steps, e); long = ap suc g.long ∙ sym (add-one n) }

  pub over
      : {s t : Stand S} {n : ℕ}
      → Going s t n
      → ((is_open t.input && t.output.waiting.is_good) ≡ true → n ≡ 2 ^ 64 - 1)
      → LinesAnswered form gives s t
  over g e = record { between = g.between; steps = g.steps; ended = λ h. g.long ∙ e h }
