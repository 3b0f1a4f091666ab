-- The method of a job, by its row's kind. Assumes nothing.
use Rattle.std.specs.Prelude.{◌≡◌, ℕ}
use Rattle.std.proofs.Math.Path.{refl}
use borrow.Author.Tests.{ne_eqb}
use Rattle.jobs.specs.declared.types.SettingsRecord.{SettingsRecord}
use Rattle.jobs.specs.declared.types.Method.TheVariants.{Damped, MultiStart, Annealing}
use Rattle.jobs.specs.Records.{dls_config, multi_start_config, annealing_config, method}

module _ (kind : ℕ) (s : SettingsRecord) where
  pub is-damped : kind ≡ 1 → method kind s ≡ Damped (dls_config s)
  unfolding method
  is-damped e = rw e refl

  pub is-multi-start : kind ≡ 2 → method kind s ≡ MultiStart (multi_start_config s)
  unfolding method
  is-multi-start e = rw e refl

  pub is-annealing : (kind ≡ 1 → ⊥) → (kind ≡ 2 → ⊥) → method kind s ≡ Annealing (annealing_config s)
  unfolding method
  is-annealing a b = rw (ne_eqb kind 1 a, ne_eqb kind 2 b) refl
