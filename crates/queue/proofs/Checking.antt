-- A checked call: the audit fails, and no model is shown; or it passes, and a model is shown.
-- Assumes nothing.
use Prim.Native.Nat.{ℕ}
use mathlib.Core.Bool.{Bool, true, false}
use mathlib.Core.List.{List}
use mathlib.Core.Logic.{◌↔◌}
use mathlib.Core.Path.{◌≡◌, refl}
use Rattle.cells.proofs.Cases.{clash}
use Rattle.meaning.specs.Calls.{Call}
use Rattle.queue.specs.Answers.{Told, refusal}
use Rattle.queue.specs.Promise.{Promise, Checked}
use Rattle.queue.specs.Rules.{QueueSound}
use Rattle.queue.specs.declared.head.Head.{Head}
use Rattle.queue.proofs.Promised.{stays}
use Rattle.queue.proofs.ShownSound.{shown-sound}
use Rattle.queue.proofs.SoundShown.{sound-shown}

module _ (call : Call) (h : Head) (w : List ℕ) (passes : Bool) (audit : (passes ≡ true) ↔ QueueSound w h) where
  -- Memory that breaks the rules is refused, and nothing changes.
  pub refused-broken : passes ≡ false → Checked call h w (refusal 9) h w
  refused-broken fails =
      record {
        promise = stays call h w (refusal 9) h (λ m s. clash (audit.1 (shown-sound h w m s)) fails);
        broken = λ none. (refl, refl, refl);
      }

  -- Memory that keeps to them shows a model, and the call promises what the quick call does.
  pub passed-sound : (t : Told) (h' : Head) (w' : List ℕ) → passes ≡ true
      → Promise call h w t h' w' → Checked call h w t h' w'
  passed-sound t h' w' holds p =
      record {
        promise = p;
        broken = λ none. let m = sound-shown h w (audit.0 holds) in absurd (none m.model m.shows);
      }
