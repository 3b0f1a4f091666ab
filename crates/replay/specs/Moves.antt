-- What the bench comes to by calls alone. Definitions, and that such moves follow one another. Assumes nothing.
use Rattle.std.specs.Prelude.{◌≡◌, List, [], ◌∷◌, ◌++◌, refl}
use Rattle.std.proofs.Common.{sym, ap, ◌∙◌}
use Rattle.bench.specs.declared.types.Bench.{Bench}
use Rattle.bench.specs.Book.{Call, left_by}
use Rattle.bench.specs.Calls.{bench_step}

-- the calls that lead from one bench to another
pub record Moves (b c : Bench) : Type 0 where
  pub calls : List Call
  pub left : c ≡ left_by bench_step b calls

calls-append : (b : Bench) (cs ds : List Call) → left_by bench_step b (cs ++ ds) ≡ left_by bench_step (left_by bench_step b cs) ds
unfolding left_by
calls-append b [] ds = refl
calls-append b (c ∷ cs) ds = calls-append (bench_step b c) cs ds

pub stays : (b : Bench) → Moves b b
unfolding left_by
stays b = record { calls = []; left = refl }

pub moves_then : {b c d : Bench} → Moves b c → Moves c d → Moves b d
moves_then {b} m n = record {
  calls = m.calls ++ n.calls;
  left = n.left ∙ ap (λ (c : Bench). left_by bench_step c n.calls) m.left ∙ sym (calls-append b m.calls n.calls);
}

-- one call
pub moves_by : {b c : Bench} (call : Call) → c ≡ bench_step b call → Moves b c
unfolding left_by
moves_by call e = record { calls = call ∷ []; left = e }
