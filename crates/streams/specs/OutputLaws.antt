-- Texts put one after the other: what waits at the end. Assumes nothing.
use Rattle.std.specs.Prelude.{◌≡◌, ℕ, suc, ◌+◌, ◌<◌, ◌≤◌, List, [], ◌∷◌, ◌++◌, length, take, slice_index_or, refl, Float}
use Rattle.std.proofs.Common.{arith, sym, ap, subst, ◌∙◌, length-append, take-suc, le-leb}
use Rattle.std.proofs.lemmas.List.{take_min}
use Rattle.streams.specs.declared.output.Output.{Output}
use Rattle.streams.specs.declared.output.Waiting.{Waiting}
use Rattle.streams.specs.Output.{with_bytes, clipped, with_waiting, added, added_all, total, Onward, Put, Puts, blank, float_text, float_texts}

added-append : (room : ℕ) (held : List ℕ) (ts us : List (List ℕ)) → added_all room held (ts ++ us) ≡ added_all room (added_all room held ts) us
unfolding added_all
added-append room held [] us = refl
added-append room held (t ∷ ts) us = added-append room (added room held t) ts us

total-append : (ts us : List (List ℕ)) → total (ts ++ us) ≡ total ts + total us
unfolding total
total-append [] us = omega arith
total-append (t ∷ ts) us = ap (λ (n : ℕ). length t + n) (total-append ts us) ∙ omega arith

-- texts that fit are all held
all_held : (room : ℕ) (held : List ℕ) (ts : List (List ℕ)) → length held + total ts ≤ room → length (added_all room held ts) ≡ length held + total ts
unfolding total added_all added
all_held room held [] h = omega arith
all_held room held (t ∷ ts) h =
    let beside : length held + length t ≤ room = omega (arith, h) in
    let long = length-append held t in
    let rest : length (held ++ t) + total ts ≤ room = rw long (omega (arith, h)) in
    simp (le-leb (length held + length t) room beside) (all_held room (held ++ t) ts rest ∙ ap (λ (n : ℕ). n + total ts) long ∙ omega arith)

pub onward_then : {w m r : Waiting} → Onward w m → Onward m r → Onward w r
onward_then a b = record { refused = b.refused ∙ a.refused; unknown = b.unknown ∙ a.unknown; lost = λ h. b.lost (a.lost h) }

-- the texts of one call, and then those of the next, which finds a buffer of the same length
pub then
    : {w m r : Waiting} {out part left : List ℕ} {ts us : List (List ℕ)}
    → Put w out ts m part
    → Put m part us r left
    → length part ≡ length out
    → Put w out (ts ++ us) r left
then {w} {m} {r} {out} {part} {left} {ts} {us} a b n = record {
  held = b.held ∙ ap (λ (room : ℕ). added_all room (take m.bytes part) us) n ∙ ap (λ (held : List ℕ). added_all (length out) held us) a.held
      ∙ sym (added-append (length out) (take w.bytes out) ts us);
  fits = λ h.
      let both : length (take w.bytes out) + (total ts + total us) ≤ length out = rw (sym (total-append ts us)) h in
      let first : length (take w.bytes out) + total ts ≤ length out = omega (arith, both) in
      let long = ap length a.held ∙ all_held (length out) (take w.bytes out) ts first in
      b.fits (omega (arith, both, long, n)) ∙ a.fits first;
  onward = onward_then a.onward b.onward;
}

-- another number of bytes alone
pub same_lines : {w r : Waiting} (n : ℕ) → r ≡ with_bytes n w → Onward w r
same_lines n e = record {
  refused = ap (λ (z : Waiting). z.refused) e;
  unknown = ap (λ (z : Waiting). z.unknown) e;
  lost = λ h. ap (λ (z : Waiting). z.is_good) e ∙ h;
}

pub nothing_put : (w : Waiting) (out : List ℕ) → Put w out [] w out
unfolding added_all
nothing_put w out = record { held = refl; fits = λ h. refl; onward = record { refused = refl; unknown = refl; lost = λ h. h } }

-- no text more, where what waits is only counted as far as the buffer goes
clipped-put : (w : Waiting) (out : List ℕ) → Put w out [] (clipped (length out) w) out
unfolding added_all
clipped-put w out = record { held = take_min w.bytes out; fits = λ h. refl; onward = record { refused = refl; unknown = refl; lost = λ h. h } }

pub put-from-clip : (w : Waiting) (out : List ℕ) {r : Waiting} → r ≡ clipped (length out) w → Put w out [] r out
put-from-clip w out e = subst (λ (z : Waiting). Put w out [] z out) (sym e) (clipped-put w out)

pub put_as : {w r : Waiting} {out left : List ℕ} {ts us : List (List ℕ)} → ts ≡ us → Put w out ts r left → Put w out us r left
put_as {w} {r} {out} {left} e p = subst (λ (texts : List (List ℕ)). Put w out texts r left) e p

pub put-from : {w z r : Waiting} {out left : List ℕ} {ts : List (List ℕ)} → w ≡ z → Put w out ts r left → Put z out ts r left
put-from {r = r} {out = out} {left = left} {ts = ts} e p = subst (λ (x : Waiting). Put x out ts r left) e p

-- the same over outputs: the texts of one call, and then those of the next
pub puts_then : {o m n : Output} {ts us : List (List ℕ)} → Puts o ts m → Puts m us n → Puts o (ts ++ us) n
puts_then a b = record { put = then a.put b.put a.room; within = b.within; room = b.room ∙ a.room; lent = b.lent ∙ a.lent; console = b.console ∙ a.console }

pub puts_as : {o n : Output} {ts us : List (List ℕ)} → ts ≡ us → Puts o ts n → Puts o us n
puts_as e p = record { put = put_as e p.put; within = p.within; room = p.room; lent = p.lent; console = p.console }

pub puts_from : {o z n : Output} {ts : List (List ℕ)} → o ≡ z → Puts o ts n → Puts z ts n
puts_from {n = n} {ts = ts} e p = subst (λ (x : Output). Puts x ts n) e p

pub nothing_puts : (o : Output) → o.waiting.bytes ≤ length o.buffer.now → Puts o [] o
nothing_puts o h = record { put = nothing_put o.waiting o.buffer.now; within = h; room = refl; lent = refl; console = refl }

clip_puts : (o : Output) → Puts o [] (with_waiting (clipped (length o.buffer.now) o.waiting) o)
clip_puts o = record { put = put-from-clip o.waiting o.buffer.now refl; within = omega arith; room = refl; lent = refl; console = refl }

pub puts_clipped : {o n : Output} → n ≡ with_waiting (clipped (length o.buffer.now) o.waiting) o → Puts o [] n
puts_clipped {o} e = subst (λ (x : Output). Puts o [] x) (sym e) (clip_puts o)

pub floats-append : (row more : List Float) → float_texts (row ++ more) ≡ float_texts row ++ float_texts more
unfolding float_texts
floats-append [] more = refl
floats-append (x ∷ row) more = ap (λ (texts : List (List ℕ)). blank ∷ float_text x ∷ texts) (floats-append row more)

one_float : (x : Float) → float_texts (x ∷ []) ≡ blank ∷ float_text x ∷ []
unfolding float_texts
one_float x = refl

-- one float more of a row
pub next-float
    : (row : List Float) (i : ℕ) (d : Float)
    → i < length row
    → float_texts (take (i + 1) row) ≡ float_texts (take i row) ++ (blank ∷ float_text (slice_index_or row i d) ∷ [])
next-float row i d h =
    let one : i + 1 ≡ suc i = omega arith in
    ap (λ (n : ℕ). float_texts (take n row)) one ∙ ap float_texts (take-suc row i d h) ∙ floats-append (take i row) (slice_index_or row i d ∷ [])
    ∙ ap (λ (t : List (List ℕ)). float_texts (take i row) ++ t) (one_float (slice_index_or row i d))
