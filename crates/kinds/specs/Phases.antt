-- What a contract says of a damped part, or of a state, of which the call is handed the phase: it holds whatever else stands there. Definitions only.
use Rattle.std.specs.Prelude.{ℕ, ◌≡◌}
use Rattle.runs.specs.declared.types.DampedState.{DampedState}
use Rattle.runs.specs.State.{State}

-- every damped part, or state, in this phase
abbrev pub InPhase : (phase : ℕ) → (DampedState → Type 0) → Type 0
InPhase n P = (d : DampedState) → d.phase ≡ n → P d

abbrev pub StateInPhase : (phase : ℕ) → (State → Type 0) → Type 0
StateInPhase n P = (s : State) → s.damped.phase ≡ n → P s
