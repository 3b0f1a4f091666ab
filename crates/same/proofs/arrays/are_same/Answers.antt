-- `same::arrays::are_same` meets its contract. The loop's invariant: every pair of entries passed is alike. Assumes nothing.
use Rattle.std.proofs.Common.{◌≡◌, Bool, ℕ, true, List, [], ◌∷◌, length, length-append, get_or, rules, subst, sym, ◌∙◌}
use Rattle.std.proofs.lemmas.Slice.Zip.{zip_turn}
use Rattle.lists.specs.All.{all_below, all_more}
use Rattle.alike.proofs.SameLaws.{unlike}
use Rattle.same.proofs.arrays.are_same.Goals as goal

-- the entries at one place
abbrev at : {A : Type 0} → (A → A → Bool) → A → List A → List A → ℕ → Bool
at alike none a b i = alike (get_or a i none) (get_or b i none)

pub loop-x-init : goal.loop-x-init
unfolding all_below
loop-x-init g c = search rules

pub returns-then-not-is_same : goal.returns-then-not-is_same
returns-then-not-is_same g c =
    let alike = g.T.SameBits.alike in
    let none = g.T.SameBits.none in
    let a = c.args.a.now in
    let b = c.args.b.now in
    let l = c.loop-x in
    let pair = zip_turn a b l.yielded c.into_iter-x-iterator.result l.x-iterator c.next.new.self c.next.result (search rules) (search rules)
    l.yielded_by (c.in-Some.x, c.in-Some.y) c.in-Some.is c.next.ensures.steps in
    sym (unlike (length a) (length b) (at alike none a b) l.invariant.0 (length l.yielded) pair.0
    (sym (λ k. alike (pair.2 none k) (pair.3 none k)) ∙ sym c.is_same.ensures ∙ c.if-not-is_same.true))

pub loop-x-preserved : goal.loop-x-preserved
loop-x-preserved g c =
    let alike = g.T.SameBits.alike in
    let none = g.T.SameBits.none in
    let a = c.args.a.now in
    let b = c.args.b.now in
    let l = c.loop-x in
    let pair = zip_turn a b l.yielded c.into_iter-x-iterator.result l.x-iterator c.next.new.self c.next.result (search rules) (search rules)
    l.yielded_by (c.in-Some.x, c.in-Some.y) c.in-Some.is c.next.ensures.steps in (
      l.invariant.0,
      subst (λ (n : ℕ). all_below (at alike none a b) n ≡ true) (sym (length-append l.yielded ((c.in-Some.x, c.in-Some.y) ∷ [])))
          (all_more (at alike none a b) (length l.yielded) l.invariant.1
          (sym (λ k. alike (pair.2 none k) (pair.3 none k)) ∙ sym c.is_same.ensures ∙ c.if-not-is_same.false)),
    )
