-- A queue that is set up shows the fresh model, and set-up keeps the number of words and those past the last cell.
-- Assumes nothing.
use Prim.Native.Nat.{ℕ, ◌*◌, ◌/◌, ◌≤◌}
use native.Mathlib.Omega.{arith}
use mathlib.Core.List.{List}
use mathlib.Core.Path.{◌≡◌, refl, sym, ap}
use lib.ListN.{length, drop}
use Rattle.cells.specs.Store.{fresh_words}
use Rattle.cells.proofs.Cases.{same?, at_most?}
use Rattle.cells.proofs.Fresh.{size_none, size-over, size-right, fresh-length, fresh-tail}
use Rattle.meaning.specs.Plain.{fresh}
use Rattle.meaning.proofs.FreshWords.{fresh-blank, fresh-free}
use Rattle.meaning.proofs.Given.{given-either}
use Rattle.meaning.proofs.Reached.{kept_fresh}
use Rattle.queue.specs.Model.{fresh_model}
use Rattle.queue.specs.Shows.{Shows}
use Rattle.queue.specs.SetUps.{set_up_causes, fresh_head, set_up_answer, set_up_words}
use Rattle.queue.specs.declared.head.Head.{Head}
use Rattle.std.specs.Prelude.{Ok, Err}
use Rattle.cells.specs.declared.refusal.Refusal.{Refusal}
use Rattle.queue.proofs.ModelRuns.{means-fresh}
use Rattle.queue.proofs.SetUpCases.{arity-under, arity-over, arity-right, refused-size, refused-arity, accepted-both}

module _ (w : List ℕ) where
  -- Head and words that an accepted set-up leaves show the fresh model.
  pub set-up-shows : (d : ℕ) → 1 ≤ length w / 8 → length w / 8 ≤ 4096 → 2 ≤ d → d ≤ 8
      → Shows (fresh_head w d) (fresh_words w) (fresh_model d (length w / 8))
  unfolding fresh_model
  set-up-shows d some most least limit =
      record {
        arity = refl;
        count = refl;
        cells = refl;
        counter = refl;
        size = ap (λ (n : ℕ). n / 8) (sym (fresh-length w));
        free = fresh-free w (length w / 8) refl some;
        blank = λ c f l n o. fresh-blank w c f n;
        entries = tt;
        seats = record { table = λ p l. absurd (omega arith); place = λ p l. absurd (omega arith) };
        beyond = λ p l. fresh-blank w p 6 (omega arith);
        valid =
            record {
              list = fresh (length w / 8) 0;
              means = means-fresh d (length w / 8) least limit;
              kept = kept_fresh (length w / 8) 0 some most;
            };
      }

  -- "The last L mod 8 words are never touched."
  pub set-up-tail : (d : ℕ) → drop (length w / 8 * 8) (set_up_words w d) ≡ drop (length w / 8 * 8) w
  unfolding set_up_words
  set-up-tail d =
      given-either (λ (x : List ℕ). drop (length w / 8 * 8) x ≡ drop (length w / 8 * 8) w) (λ i. w) (fresh_words w) (set_up_causes w d)
      (λ i. refl)
      (λ f. fresh-tail w)

  -- "From a set-up on": where set-up answers with a head, that head and the words afterwards show the fresh model.
  pub set-up-ready : (d : ℕ) (h : Head) → set_up_answer w d ≡ Ok h → Shows h (set_up_words w d) (fresh_model d (length w / 8))
  set-up-ready d h e =
      same? n 0
      (λ q. never _ (refused-size w d (size_none n q)).0)
      (λ q.
      at_most? n 4096
      (λ most.
      let right = size-right n (omega arith) most in
      at_most? 2 d
      (λ least.
      at_most? d 8
      (λ limit.
      let both = accepted-both w d right (arity-right d least limit) in
      let same : fresh_head w d ≡ h = cc in
      rw (← same, both.1) (set-up-shows d (omega arith) most least limit))
      (λ l. never _ (refused-arity w d right (arity-over d l)).0))
      (λ l. never _ (refused-arity w d right (arity-under d l)).0))
      (λ l. never _ (refused-size w d (size-over n l)).0))
    where
      n : ℕ
      n = length w / 8

      never : (r : Refusal) → Err r ≡ set_up_answer w d → Shows h (set_up_words w d) (fresh_model d (length w / 8))
      never r q = let z : ◌≡◌ {A = ℕ} 0 1 = cc in absurd (omega arith)
