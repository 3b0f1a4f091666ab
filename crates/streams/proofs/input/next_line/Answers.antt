-- `streams::input::next_line` meets its contract: a line feed is found, or there is more to come, or neither. Assumes nothing.
use Rattle.std.proofs.Common.{◌≡◌, ℕ, ◌<◌, ◌≤◌, true, false, List, length, sym, ap, ◌∙◌, subst, arith, rules, le-ltb, lt-ltb}
use Rattle.streams.specs.declared.input.Input.{Input}
use Rattle.std.specs.Prelude.{Bool, Option, Some, None, IfSome}
use Rattle.std.specs.Bool.{then_some}
use Rattle.streams.specs.declared.input.Found.{Found}
use Rattle.streams.specs.declared.input.Line.{Line}
use Rattle.streams.specs.Input.{feed_at, has_more, held_line, is_left, last_line, not_yet, line_from}
use Rattle.std.proofs.Common.{rules}
use Rattle.streams.proofs.input.next_line.Goals as goal

module _ (buf : List ℕ) (input : Input) {end : ℕ} (is : end ≡ feed_at buf input) {line : Found} where
  from-held : end < input.to → line ≡ held_line buf input end → line ≡ line_from buf input
  unfolding line_from
  from-held h e =
      let feed : feed_at buf input < input.to = omega (arith, h, is) in
      simp (lt-ltb (feed_at buf input) input.to feed) (e ∙ ap (held_line buf input) is)

  from_more : input.to ≤ end → has_more input ≡ true → line ≡ not_yet input → line ≡ line_from buf input
  unfolding line_from
  from_more h m e =
      let feed : input.to ≤ feed_at buf input = omega (arith, h, is) in
      simp (le-ltb (feed_at buf input) input.to feed, m) e

  from_last : input.to ≤ end → has_more input ≡ false → line ≡ last_line input → line ≡ line_from buf input
  unfolding line_from
  from_last h m e =
      let feed : input.to ≤ feed_at buf input = omega (arith, h, is) in
      simp (le-ltb (feed_at buf input) input.to feed, m) e

-- the line, if there is one, and what comes after it, lie in the buffer

abbrev Within : ℕ → Found → Type 0
Within n l = IfSome l.line (λ line. (line.from ≤ line.to) × (line.to ≤ n)) × ((l.input.from ≤ l.input.to) × (l.input.to ≤ n))

wider : (line : Option Line) {end n : ℕ} → end ≤ n → IfSome line (λ l. (l.from ≤ l.to) × (l.to ≤ end)) → IfSome line (λ l. (l.from ≤ l.to) × (l.to ≤ n))
wider None h w = tt
wider (Some l) h w = (w.0, omega (arith, h, w.1))

if_left : {A : Type 0} (P : A → Type 0) (left : Bool) {x : A} → P x → IfSome (then_some left x) P
if_left P true p = p
if_left P false p = tt

pub returns-then-end-input : goal.returns-then-end-input
returns-then-end-input c =
    let a = c.args in
    let f = c.find-end in
    let e = c.held_line.ensures.value in
    let b = c.held_line.ensures.from_le_to in
    record {
      value = from-held a.buf.now a.input f.ensures.value c.if-end-input.true e;
      from_le_to_2 = wider c.held_line.result.line (search rules) b;
      from_le_to_3 = subst (λ (l : Found). (l.input.from ≤ l.input.to) × (l.input.to ≤ length a.buf.now)) (sym e) (search rules, search rules);
    }

pub returns-then-has_more : goal.returns-then-has_more
returns-then-has_more c =
    let a = c.args in
    let f = c.find-end in
    let e = c.not_yet.ensures in
    let w = subst (Within (length a.buf.now)) (sym e) (tt, (search rules, search rules)) in
    let more = sym c.has_more.ensures ∙ c.if-has_more.true in
    record { value = from_more a.buf.now a.input f.ensures.value c.if-end-input.false more e; from_le_to_2 = w.0; from_le_to_3 = w.1 }

pub returns : goal.returns
returns c =
    let a = c.args in
    let f = c.find-end in
    let e = c.last_line.ensures in
    let w = subst (Within (length a.buf.now)) (sym e)
    (if_left (λ (l : Line). (l.from ≤ l.to) × (l.to ≤ length a.buf.now)) (is_left a.input) (search rules, search rules), (search rules, search rules)) in
    let none = sym c.has_more.ensures ∙ c.if-has_more.false in
    record { value = from_last a.buf.now a.input f.ensures.value c.if-end-input.false none e; from_le_to_2 = w.0; from_le_to_3 = w.1 }
