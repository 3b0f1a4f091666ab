-- What a listing has, on any bench whatever (request 10). Assumes nothing.
use Rattle.std.specs.Prelude.{◌≡◌, refl, Bool, true, false, not, ◌&&◌, ℕ}
use Rattle.std.proofs.Common.{ap, ◌∙◌}
use mathlib.Core.List.{Permᴰ}
use Rattle.runs.specs.Damage.{damaged}
use Rattle.runs.specs.Rows.{is_finished}
use Rattle.runs.specs.declared.types.Row.{Row}
use Rattle.bench.specs.declared.types.Bench.{Bench}
use Rattle.bench.specs.Book.{places_where}
use Rattle.bench.specs.Benches.{row_at}
use Rattle.bench.specs.Order.{Rising}
use Rattle.bench.specs.OrderLaws.{ordered-perm, rising-ordered}
use Rattle.bench.specs.Calls.{is_vacant, is_listed, finished_places}

-- "a damaged row is never listed"
pub damaged-unlisted : (r : Row) → damaged r ≡ true → is_listed r ≡ false
damaged-unlisted r h = ap (λ (d : Bool). not (is_vacant r) && not d && is_finished r) h ∙ neither (not (is_vacant r))
  where
    neither : (v : Bool) → v && false && is_finished r ≡ false
    neither true = refl
    neither false = refl

module _ (b : Bench) where
  abbrev turns : ℕ → ℕ
  turns place = (row_at b place).turns

  abbrev test : ℕ → Bool
  test place = is_listed (row_at b place)

  -- each place that is listed once, and no other
  pub listing-each : Permᴰ (finished_places b) (places_where test)
  unfolding finished_places
  listing-each = ordered-perm turns (places_where test)

  -- "by working turns used, fewest first, equal ones by rising place"
  pub listing-rising : Rising turns (finished_places b)
  unfolding finished_places
  listing-rising = rising-ordered turns test
