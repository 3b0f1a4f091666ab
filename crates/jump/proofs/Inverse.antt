-- No two states meet after a draw: a table of 64 words takes each draw back, as a test on 1, 2, 4, .. computes. Assumes nothing.
use Rattle.std.specs.Prelude.{◌≡◌, refl, List, [], ◌∷◌, ℕ, ◌<◌, ◌^◌, take}
use Rattle.std.proofs.Common.{sym, ap, ◌∙◌}
use Rattle.xorshift.specs.Xorshift.{step_of}
use Rattle.jump.specs.Table.{table}
use Rattle.jump.specs.Apply.{apply}
use Rattle.jump.proofs.Linear.{words, step-linear, apply-linear, linear-then, linear-self, is-applied}

-- table 0 is the draw's own words
pub first-table : take 64 table ≡ words 64 step_of
unfolding table step_of
first-table = refl

-- its words on 1, 2, 4, ..
unfoldable back : List ℕ
back =
    0xbe6df32f185a864d ∷ 0x7ccbe6de34b52c9b ∷ 0xf997cdbc696a5936 ∷ 0xf32f9b78d2d4b26c ∷
    0xe64f3671a1a944d9 ∷ 0xcc8e6c634752a9b3 ∷ 0x991cd8c68ea55366 ∷ 0x3229b10d194a86cd ∷
    0x6443629a36952d9b ∷ 0xc886c5346d2a5b36 ∷ 0x910d8a68da54b66c ∷ 0x220b1451b0a94cd9 ∷
    0x440628236552b9b3 ∷ 0x7bebdf5af2c5b264 ∷ 0xf7c7be35e18b44c9 ∷ 0xef9f7cebc716a993 ∷
    0xdf3ef9d78e2d5326 ∷ 0xbe7df3af1c5aa64c ∷ 0x7cebe7de3cb56c99 ∷ 0xf9d7cfbc796ad932 ∷
    0xf3af9f78f2d5b264 ∷ 0xe74f3e71e1ab44c9 ∷ 0xce8e7c63c756a993 ∷ 0x9d1cf8c78ead5326 ∷
    0x3a39f18f1d5aa64c ∷ 0x7463e39e3eb56c99 ∷ 0xe8c7c73c7d6ad932 ∷ 0xd18f8e78fad5b264 ∷
    0xa30f1c71f1ab44c9 ∷ 0x460e3863e756a993 ∷ 0x7ffbffdbf6cd9224 ∷ 0xfff7ffb7ed9b2448 ∷
    0xffffffefdf366891 ∷ 0xffffffdfbe6cd122 ∷ 0xffffffbf7cd9a244 ∷ 0xffeffffefdb36489 ∷
    0xffdffffdfb66c912 ∷ 0xffbffffbf6cd9224 ∷ 0xff7ffff7ed9b2448 ∷ 0xfeefff6fdf366891 ∷
    0xfddffedfbe6cd122 ∷ 0xfbbffdbf7cd9a244 ∷ 0xf76ffbfefdb36489 ∷ 0xeedff7fdfb66c912 ∷
    0xddbfeffbf6cd9224 ∷ 0xbb7fdff7ed9b2448 ∷ 0x76efbf6fdf366891 ∷ 0x1e38f1c3860c1020 ∷
    0x3c71e3870c182040 ∷ 0x78f3c78e1c306081 ∷ 0xf1e78f1c3860c102 ∷ 0xe3cf1e3870c18204 ∷
    0xc79e3c70e1830408 ∷ 0x8f3c78e1c3060810 ∷ 0x1e78f1c3860c1020 ∷ 0x3cf1e3870c182040 ∷
    0x79f3c78e1c306081 ∷ 0xf3e78f1c3860c102 ∷ 0xe7cf1e3870c18204 ∷ 0xcf9e3c70e1830408 ∷
    0x9f3c78e1c3060810 ∷ 0x3e78f1c3860c1020 ∷ 0x7cf1e3870c182040 ∷ 0xf9f3c78e1c306081 ∷ []

back-words : words 64 (λ x. apply back (step_of x)) ≡ words 64 (λ x. x)
unfolding back step_of
back-words = refl

drawn-back : (x : ℕ) → x < 2 ^ 64 → apply back (step_of x) ≡ x
drawn-back x h =
    sym (is-applied 64 (λ y. apply back (step_of y)) (linear-then step_of (apply back) step-linear (apply-linear back)) x h)
    ∙ ap (λ (ws : List ℕ). apply ws x) back-words ∙ is-applied 64 (λ y. y) linear-self x h

pub step-injective : (x y : ℕ) → x < 2 ^ 64 → y < 2 ^ 64 → step_of x ≡ step_of y → x ≡ y
step-injective x y h k e = sym (drawn-back x h) ∙ ap (apply back) e ∙ drawn-back y k
