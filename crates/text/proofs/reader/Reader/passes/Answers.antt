-- `text::reader::Reader::passes` meets its contract. Assumes nothing.
use mathlib.Core.Path.{◌≡◌, refl, sym, ap, ◌∙◌}
use mathlib.Core.Bool.{Bool, true, false, cond, true≢false}
use mathlib.Core.List.{List, [], ◌∷◌}
use lib.Dec.{eqb}
use borrow.Author.Tests.{eqb-true, eq-eqb}
use Prim.Native.Nat.{ℕ}
use Rattle.text.specs.declared.words.Word.{Word}
use Rattle.text.specs.Fields.{text_of}
use Rattle.text.specs.Words.{same_text}
use Rattle.text.proofs.reader.Reader.passes.Goals as goal

same_self : (text : List ℕ) → same_text text text ≡ true
unfolding same_text
same_self [] = refl
same_self (b ∷ rest) = simp (eq-eqb b b refl) (same_self rest)

same-is : (a b : List ℕ) → same_text a b ≡ true → a ≡ b
unfolding same_text
same-is [] [] h = refl
same-is [] (y ∷ ys) h = absurd (true≢false (sym h))
same-is (x ∷ xs) [] h = absurd (true≢false (sym h))
same-is (x ∷ xs) (y ∷ ys) h = go (eqb x y) refl h (same-is xs ys)
  where
    go : (t : Bool) → eqb x y ≡ t → cond t (same_text xs ys) false ≡ true → (same_text xs ys ≡ true → xs ≡ ys) → x ∷ xs ≡ y ∷ ys
    go true e k is = ap (λ (b : ℕ). b ∷ xs) (eqb-true x y e) ∙ ap (λ (rest : List ℕ). y ∷ rest) (is k)
    go false e k is = absurd (true≢false (sym k))

-- an answer that is true just where the texts are one
decided : (a b : List ℕ) (t : Bool) → (t ≡ true → a ≡ b) → (a ≡ b → t ≡ true) → t ≡ same_text a b
decided a b true is_same same = sym (same_self b) ∙ ap (λ (x : List ℕ). same_text x b) (sym (is_same refl))
decided a b false is_same same = go (same_text a b) refl
  where
    go : (t : Bool) → same_text a b ≡ t → false ≡ t
    go true e = same (same-is a b e)
    go false e = refl

pub returns-then-is_next-clause-value : goal.returns-then-is_next-clause-value
returns-then-is_next-clause-value c =
    let line = c.args.self.now.line.now in
    decided (text_of line c.next_word-w.result) c.args.name.now c.same-is_next.result c.same-is_next.ensures.0 c.same-is_next.ensures.1
    ∙ ap (λ (w : Word). same_text (text_of line w) c.args.name.now) c.next_word-w.ensures.value

pub returns-else-is_next-clause-value : goal.returns-else-is_next-clause-value
returns-else-is_next-clause-value c =
    let line = c.args.self.now.line.now in
    decided (text_of line c.next_word-w.result) c.args.name.now c.same-is_next.result c.same-is_next.ensures.0 c.same-is_next.ensures.1
    ∙ ap (λ (w : Word). same_text (text_of line w) c.args.name.now) c.next_word-w.ensures.value
