-- `answers::digest::with_word` meets its contract: std's bytes of a number, the lowest first, are these. Assumes nothing.
use Rattle.std.proofs.Common.{◌≡◌, ℕ, zero, suc, ◌/◌, ◌%◌, ◌^◌, sym, refl, ap, ◌∙◌, arith}
use Rattle.std.proofs.Math.Nat.{div-div-eq-div-mul, pow-suc}
use Rattle.std.specs.Int.{byte_at, bytes_low_first}
use Rattle.std.specs.List.{fold}
use Rattle.answers.specs.Digest.{with_byte, with_bytes}
use Rattle.answers.proofs.digest.with_word.Goals as goal

whole : (x : ℕ) → x / 256 ^ 0 ≡ x
whole x = omega arith

byte : (i x : ℕ) → byte_at i x ≡ x / 256 ^ i % 256
byte zero x = ap (λ (n : ℕ). n % 256) (sym (whole x))
byte (suc i) x = refl

further : (i x : ℕ) → x / 256 ^ suc i ≡ x / 256 ^ i / 256
further i x = ap (λ (n : ℕ). x / n) (pow-suc 256 i) ∙ sym (div-div-eq-div-mul x (256 ^ i) 256)

all_bytes : (n i hash x : ℕ) → fold with_byte hash (bytes_low_first i n x) ≡ with_bytes n hash (x / 256 ^ i)
unfolding with_bytes
all_bytes zero i hash x = refl
all_bytes (suc n) i hash x =
    all_bytes n (suc i) (with_byte hash (byte_at i x)) x
    ∙ (λ k. with_bytes n (with_byte hash (byte i x k)) (further i x k))

pub returns : goal.returns
returns c =
    let a = c.args in
    c.with_all.ensures ∙ ap (fold with_byte a.hash) c.to_le_bytes.ensures ∙ all_bytes 8 0 a.hash a.x ∙ ap (with_bytes 8 a.hash) (whole a.x)
