-- `streams::output::Output::put` meets its contract: the text is too long for the buffer, or for what is left of it, or fits. Assumes nothing.
use Rattle.std.proofs.Common.{◌≡◌, ℕ, ◌+◌, ◌<◌, ◌≤◌, List, [], ◌∷◌, ◌++◌, length, take, sym, refl, ap, ◌∙◌, append_assoc, arith, length-append, length-take}
use Rattle.std.proofs.Common.{length-take-le, take_at, rules, le-leb}
use Rattle.std.proofs.lemmas.List.{take_min}
use borrow.Author.Tests.{lt-leb}
use Rattle.streams.specs.declared.output.Waiting.{Waiting}
use Rattle.streams.specs.OutputLaws.{onward_then, same_lines}
use Rattle.streams.specs.Output.{added, added_all, after, total, with_bytes, Onward, Put}
use Rattle.std.proofs.Common.{rules}
use Rattle.streams.proofs.output.Output.put.Goals as goal

module _ (waiting : ℕ) (out text : List ℕ) where
  too_long : length out < length text → after waiting out (text ∷ []) ≡ []
  unfolding added_all added
  too_long h = simp (lt-leb (length (take waiting out) + length text) (length out) (omega arith), lt-leb (length text) (length out) h)

  alone : length text ≤ length out → length out < length (take waiting out) + length text → after waiting out (text ∷ []) ≡ text
  unfolding added_all added
  alone h k = simp (lt-leb (length (take waiting out) + length text) (length out) k, le-leb (length text) (length out) h)

  beside : length (take waiting out) + length text ≤ length out → after waiting out (text ∷ []) ≡ take waiting out ++ text
  unfolding added_all added
  beside h = simp (le-leb (length (take waiting out) + length text) (length out) h)

-- a part that a copy of the text went to the start of, whatever follows

module _ (text rest part : List ℕ) (n : ℕ) (copied : part ≡ text ++ rest) (all : n ≡ length text) where
  put_front : take n part ≡ text
  put_front = rw copied (take_at text rest n (sym all))

  -- and with what stands before the part
  put-after : (head tail : List ℕ) (w : ℕ) → length head ≡ w → take (w + n) (head ++ (part ++ tail)) ≡ head ++ text
  put-after head tail w h =
      let joined : head ++ ((text ++ rest) ++ tail) ≡ (head ++ text) ++ (rest ++ tail) = simp append_assoc in
      rw (copied, joined) (take_at (head ++ text) (rest ++ tail) (w + n) (simp length-append (omega arith)))

one-text : (text : List ℕ) → total (text ∷ []) ≡ length text
unfolding total
one-text text = omega arith

-- what was written, and the text that waits now in a buffer that it had to be emptied for

module _ (w : Waiting) (out text : List ℕ) (r : Waiting) (left : List ℕ) where
  emptied : (n : ℕ) → r.bytes ≡ n → take n left ≡ after w.bytes out (text ∷ []) → length out < length (take w.bytes out) + length text → Onward w r
      → Put w out (text ∷ []) r left
  emptied n is e h o =
      let long = one-text text in
      record { held = ap (λ (m : ℕ). take m left) is ∙ e; fits = λ k. absurd (omega (arith, h, k, long)); onward = o }

  -- or was only added to
  added-to : (n : ℕ) → r ≡ with_bytes n w → take n left ≡ after w.bytes out (text ∷ []) → Put w out (text ∷ []) r left
  added-to n is e = record {
    held = ap (λ (z : Waiting). take z.bytes left) is ∙ e;
    fits = λ k. ap (λ (z : Waiting). z.is_good) is;
    onward = same_lines n is;
  }

pub returns-then-text-self : goal.returns-then-text-self
returns-then-text-self c =
    let o = c.args.self.now in
    let text = c.args.text.now in
    let g = c.written-self.ensures in
    let none = g.bytes in record {
      put = emptied o.waiting o.buffer.now text c.written-self.result o.buffer.now 0 none
          (sym (too_long o.waiting.bytes o.buffer.now text (omega arith))) (omega arith) (onward_then c.flushed.ensures.onward g.onward);
      within = omega (arith, none);
      room = refl;
      lent = refl;
      console = refl;
    }

pub returns-then-held-self : goal.returns-then-held-self
returns-then-held-self c =
    let o = c.args.self.now in
    let text = c.args.text.now in
    let held = length-take o.waiting.bytes o.buffer.now ∙ sym c.min-held.ensures in
    let f = c.flushed-flushed.ensures in
    let k = c.copy in
    let is = c.with_bytes-self.ensures in
    let n = ap (λ (z : Waiting). z.bytes) is in record {
      put = emptied o.waiting o.buffer.now text c.with_bytes-self.result _ k.result n
          (put_front text _ _ k.result k.ensures.after k.ensures.value
          ∙ sym (alone o.waiting.bytes o.buffer.now text (omega arith) (omega arith))) (omega arith)
          (onward_then f.onward (same_lines k.result is));
      within = rw n (search rules);
      room = search rules;
      lent = refl;
      console = refl;
    }

pub returns : goal.returns
returns c =
    let o = c.args.self.now in
    let text = c.args.text.now in
    let l = c.min-held in
    let k = c.copy-bytes in
    let w = o.waiting.bytes in
    let held = length-take w o.buffer.now ∙ sym l.ensures in
    let is = c.with_bytes-self-2.ensures in
    let n = ap (λ (z : Waiting). z.bytes) is in record {
      put = added-to o.waiting o.buffer.now text c.with_bytes-self-2.result _ (l.result + k.result) is
          (put-after text _ _ k.result k.ensures.after k.ensures.value
          (take l.result o.buffer.now) _ l.result (length-take-le l.result o.buffer.now (omega arith))
          ∙ ap (λ (head : List ℕ). head ++ text) (ap (λ (m : ℕ). take m o.buffer.now) l.ensures ∙ take_min w o.buffer.now)
          ∙ sym (beside w o.buffer.now text (omega arith)));
      within = rw n (search rules);
      room = search rules;
      lent = refl;
      console = refl;
    }
