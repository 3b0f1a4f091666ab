-- `streams::input::read_on` meets its contract: what was kept stands before what came. Assumes nothing.
use Rattle.std.proofs.Common.{◌≡◌, ℕ, zero, suc, ◌+◌, ◌≤◌, ltb, cond, List, length, take, refl}
use Rattle.std.proofs.Common.{sym, ap, ◌∙◌, subst, arith, length-take-le, take_at, rules, le-ltb, lt-ltb}
use Rattle.std.specs.Prelude.{Result, Ok, Err, IfOk}
use Rattle.std.specs.Result.{result_unwrap_or}
use Rattle.streams.specs.declared.input.Input.{Input}
use Rattle.streams.specs.declared.input.Stage.{Stage}
use Rattle.streams.specs.declared.input.Stage.TheVariants.{Reading, Ended, Failed}
use Rattle.streams.specs.Input.{roomed, held_bytes, read_to, good_at, stage_after, ReadOn}
use Rattle.streams.proofs.input.read_on.Goals as goal

-- a read that fails brings nothing

none_more : {E : Type 0} (r : Result ℕ E) (n : ℕ) → IfOk r (λ b. b ≤ n) → result_unwrap_or r 0 ≤ n
none_more (Ok b) n h = h
none_more (Err e) n h = omega arith

-- something came exactly where the end is further on

stage_is : {E : Type 0} (t : ℕ) (r : Result ℕ E) → stage_after r ≡ cond (good_at (stage_after r)) (cond (ltb t (t + result_unwrap_or r 0)) Reading Ended) Failed
stage_is t (Ok zero) = simp (le-ltb t (t + 0) (omega arith))
stage_is t (Ok (suc n)) = simp (lt-ltb t (t + suc n) (omega arith))
stage_is t (Err e) = refl

module _ {E : Type 0} (buf : List ℕ) (input : Input) (left : List ℕ) {kept : Input} (e : kept ≡ roomed (length buf) input) (came : Result ℕ E) where
  is_read : take kept.to left ≡ held_bytes buf input
      → ReadOn buf input left (record {
        from = 0;
        to = kept.to + result_unwrap_or came 0;
        number = kept.number;
        is_cut = kept.is_cut;
        stage = stage_after came;
      })
  is_read k =
      let to = kept.to + result_unwrap_or came 0 in
      record {
        kept = ap (λ (i : Input). take i.to left) (sym e) ∙ k;
        came = subst (λ (i : Input). i.to ≤ to) e (omega arith);
        rest = ap (λ (s : Stage). record { from = 0; to = to; number = kept.number; is_cut = kept.is_cut; stage = s }) (stage_is kept.to came)
            ∙ ap (read_to to (good_at (stage_after came))) e;
      }

pub returns : goal.returns
returns c =
    let a = c.args in
    let w = c.with_room-kept in
    let came : c.unwrap_or.result ≤ length c.read_some-came.new.room =
    rw c.unwrap_or.ensures (none_more c.read_some-came.result _ c.read_some-came.ensures) in
    let read = is_read a.buf.now a.input _ w.ensures.value.0 c.read_some-came.result
    (take_at (take w.result.to _) _ w.result.to (length-take-le w.result.to _ w.ensures.value.1) ∙ w.ensures.buf_after) in
    record {
      from_le_to_2 = (search rules, search rules);
      read_on = simp (c.unwrap_or.ensures, c.stage_after-stage.ensures) read;
    }
