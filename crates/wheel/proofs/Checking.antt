-- A checked call: the audit fails, and no model is shown; or it passes, and a model is shown.
-- Assumes nothing.
use Prim.Native.Nat.{ℕ}
use mathlib.Core.List.{List}
use mathlib.Core.Path.{◌≡◌, refl}
use Rattle.std.specs.Prelude.{Result, Ok, Err}
use Rattle.cells.specs.declared.refusal.Refusal.{Refusal}
use Rattle.meaning.specs.Calls.{Call, Answer, Refused}
use Rattle.wheel.specs.Answers.{told, told_advance, written}
use Rattle.wheel.specs.Promise.{head_lists, Broken, Promise, Advances, Checked, CheckedAdvance, Audited}
use Rattle.wheel_rules.specs.Rules.{WheelSound}
use Rattle.wheel.specs.declared.head.Advanced.{Advanced}
use Rattle.wheel.specs.declared.head.Head.{Head}
use Rattle.wheel.proofs.Promised.{stays}
use Rattle.wheel_rules.proofs.ShownSound.{shown-sound}
use Rattle.wheel_rules.proofs.SoundShown.{sound-shown}

module _ (h : Head) (w : List ℕ) where
  -- What breaks the rules shows no model.
  none-shown : (WheelSound (head_lists h w) h.dial → ⊥) → Broken (head_lists h w) h.dial
  none-shown fails m s = fails (shown-sound (head_lists h w) h.dial m s)

  -- What keeps to them shows one.
  one-shown : {ℓ : Type 0} → WheelSound (head_lists h w) h.dial → Broken (head_lists h w) h.dial → ℓ
  one-shown holds none = let m = sound-shown (head_lists h w) h.dial holds in absurd (none m.model m.shows)

  -- Memory that breaks the rules is refused, and nothing changes.
  pub refused-broken : {A : Type 0} (call : Call) (say : A → Answer) (a : Result A Refusal) (r : Refusal) → Audited h w (Err r) → a ≡ Err r
      → Checked call h w (told say a) h w
  unfolding told
  refused-broken call say a r broken e =
      rw (e, broken.0)
      (record {
        promise = stays call (head_lists h w) h.dial (Refused 9) (λ m s. absurd (none-shown broken.1 m s));
        broken = λ none. (refl, refl, refl);
      })

  -- Memory that keeps to them shows a model, and the call promises what the quick call does.
  pub passed-sound : (u : Unit) (call : Call) (a : Answer) (h' : Head) (w' : List ℕ) → Audited h w (Ok u)
      → Promise call (head_lists h w) h.dial a (head_lists h' w') h'.dial → Checked call h w a h' w'
  passed-sound u call a h' w' holds p = record { promise = p; broken = λ none. one-shown holds none }

  -- The same of an advance, output included.
  pub advance-broken : (target : ℕ) (out : List ℕ) (a : Result Advanced Refusal) (r : Refusal) → Audited h w (Err r) → a ≡ Err r
      → CheckedAdvance target h w out a h w out
  unfolding told_advance told written
  advance-broken target out a r broken e =
      rw (e, broken.0)
      (record {
        advances =
            record {
              promise = stays _ (head_lists h w) h.dial (Refused 9) (λ m s. absurd (none-shown broken.1 m s));
              room = refl;
              beyond = λ m s. refl;
            };
        broken = λ none. (refl, refl, refl, refl);
      })

  pub advance-sound : (u : Unit) (target : ℕ) (out : List ℕ) (a : Result Advanced Refusal) (h' : Head) (w' out' : List ℕ) → Audited h w (Ok u)
      → Advances target (head_lists h w) h.dial out a (head_lists h' w') h'.dial out' → CheckedAdvance target h w out a h' w' out'
  advance-sound u target out a h' w' out' holds p = record { advances = p; broken = λ none. one-shown holds none }
