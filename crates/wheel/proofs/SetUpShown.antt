-- A wheel that is set up shows the fresh model, and set-up keeps the number of words and those past the last cell.
-- Assumes nothing.
use Prim.Native.Nat.{ℕ, ◌*◌, ◌/◌, ◌≤◌}
use mathlib.Core.List.{List, []}
use mathlib.Core.Path.{◌≡◌, refl, sym, ap}
use lib.ListN.{length, drop}
use Rattle.cells.specs.Store.{fresh_words}
use Rattle.cells.proofs.Fresh.{fresh-length, fresh-tail}
use Rattle.meaning.specs.Plain.{fresh}
use Rattle.meaning.proofs.FreshWords.{fresh-blank, fresh-free}
use Rattle.meaning.proofs.Given.{given-either}
use Rattle.meaning.proofs.Reached.{kept_fresh}
use Rattle.places.specs.Ticks.{last_tick}
use Rattle.slots.proofs.Changing.{stand-same}
use Rattle.slots.proofs.Standing.{fresh-stands}
use Rattle.meaning.specs.Arranged.{arranged}
use Rattle.dial.specs.Joined.{listed}
use Rattle.dial.specs.Shows.{passing, standing}
use Rattle.wheel.specs.Promise.{head_lists, DialShows}
use Rattle.wheel.specs.SetUps.{set_up_causes, empty_head, fresh_store, set_up_words}

module _ (w : List ℕ) where
  -- Head and words that an accepted set-up leaves show the fresh model.
  pub set-up-shows : (t : ℕ) → 1 ≤ length w / 8 → length w / 8 ≤ 4096 → t ≤ last_tick 64 6
      → DialShows (head_lists (empty_head t (fresh_store w)) (fresh_words w)) (empty_head t (fresh_store w)).dial (fresh (length w / 8) t)
  unfolding fresh head_lists empty_head
  set-up-shows t some most last =
      record {
        clock = refl;
        cells = refl;
        counter = refl;
        size = ap (λ (n : ℕ). n / 8) (sym (fresh-length w));
        free = fresh-free w (length w / 8) refl some;
        blank = λ c f l n. fresh-blank w c f n;
        entries = tt;
        lists =
            stand-same _ (λ i. []) _ (λ i k. unfold standing passing in refl)
            (fresh-stands _ refl refl refl refl refl (rw (fresh-length w) most));
        valid =
            record {
              kept = unfold listed arranged in kept_fresh (length w / 8) t some most;
              timed = unfold listed arranged in record { clock = last; deadlines = tt };
              stable = tt;
            };
      }

  -- "The last L mod 8 words are never touched."
  pub set-up-tail : (t : ℕ) → drop (length w / 8 * 8) (set_up_words w t) ≡ drop (length w / 8 * 8) w
  unfolding set_up_words
  set-up-tail t =
      given-either (λ (x : List ℕ). drop (length w / 8 * 8) x ≡ drop (length w / 8 * 8) w) (λ i. w) (fresh_words w) (set_up_causes w t)
      (λ i. refl)
      (λ f. fresh-tail w)
