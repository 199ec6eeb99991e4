-- Set-up of a wheel of 1 to 512 cells by the first line, and the lines after it.
-- Assumes nothing.
use Prim.Native.Nat.{ℕ, ◌*◌, ◌/◌, ◌≤◌, ◌<◌}
use native.Mathlib.Omega.{arith}
use mathlib.Core.Bool.{false}
use mathlib.Core.List.{List, [], ◌++◌}
use mathlib.Core.Path.{◌≡◌, refl, ap, subst, ◌∙◌}
use lib.ListN.{length, take, drop, replicate}
use lib.Seq.{take_at}
use borrow.Author.Tests.{lt-ltb, le-ltb}
use Rattle.cells.specs.Store.{wrong_size, fresh_words}
use Rattle.cells.proofs.Cases.{at_most?}
use Rattle.cells.proofs.Fresh.{size-right, fresh-length}
use Rattle.meaning.specs.Refusals.{first_of, bad_size, beyond}
use Rattle.meaning.specs.Plain.{fresh}
use Rattle.places.specs.Ticks.{last_tick}
use Rattle.dial.specs.Lent.{lists_of}
use Rattle.wheel.specs.Promise.{head_lists, DialShows}
use Rattle.wheel.specs.SetUps.{set_up_causes, empty_head, fresh_store, set_up_answer, set_up_head, set_up_words}
use Rattle.dial.specs.declared.state.Dial.{Dial}
use Rattle.std.specs.Prelude.{None, Some, Result, Ok, Err}
use Rattle.cells.specs.Causes.{number_of, refusal_of}
use Rattle.cells.specs.declared.refusal.Refusal.{Refusal}
use Rattle.cells.specs.declared.refusal.Refusal.TheVariants as causes
use Rattle.wheel.specs.declared.head.Head.{Head}
use Rattle.wheel.proofs.SetUpShown.{set-up-shows}
use Rattle.script.specs.Answers.{Laid}
use Rattle.script.specs.Grammar.{read_line}
use Rattle.script.proofs.Laying.{laid_as}
use Rattle.wheel_script.specs.Commands.{command_of}
use Rattle.wheel_script.specs.Texts.{bad_text, refused_text, ready_text}
use Rattle.wheel_script.specs.Spoken.{call_of, Obeyed}
use Rattle.wheel_script.specs.Runs.{Place, Before, Ended, opening_of, opening_text, opening_place, call_model, printed, following, Blank, Opened, Stands, Begun, Answered}
use Rattle.script.specs.declared.session.Session.{Session}
use Rattle.script.specs.declared.session.Session.TheVariants as session
use Rattle.wheel_script.proofs.Speaking.{obeyed-shown}

module _ (w : List ℕ) (n t : ℕ) (long : length w ≡ n * 8) (some : 1 ≤ n) (most : n ≤ 512) where
  size : length w / 8 ≡ n
  size = omega arith

  right : wrong_size (length w / 8) ≡ false
  right = size-right (length w / 8) (omega (arith, size)) (omega (arith, size))

  -- A start above the last tick is refused with 5.
  late : 68719476735 < t → set_up_answer w t ≡ Err causes.Beyond
  unfolding set_up_answer set_up_causes first_of bad_size beyond last_tick refusal_of
  late h = rw (right, lt-ltb 68719476735 t h)

  -- Any other start is accepted.
  timely : t ≤ 68719476735 → (set_up_answer w t ≡ Ok (set_up_head w t)) × (set_up_words w t ≡ fresh_words w)
  unfolding set_up_answer set_up_words set_up_causes first_of bad_size beyond last_tick
  timely h = let below = le-ltb 68719476735 t h in (rw (right, below), rw (right, below))

  -- A refusal is by 5, and the start is above the last tick.
  refused-late : (a : Result Head Refusal) (r : Refusal) → a ≡ set_up_answer w t → a ≡ Err r → (number_of r ≡ 5) × (68719476735 < t)
  refused-late a r e f =
      at_most? t 68719476735
      (λ h.
      let known = (timely h).0 in
      absurd (cc))
      (λ h.
      let known = late h in
      let five : r ≡ causes.Beyond = cc in
      (ap number_of five, h))

  -- An accepted start is at most the last tick, and the head is that of a set-up.
  ready-timely : (a : Result Head Refusal) (head : Head) → a ≡ set_up_answer w t → a ≡ Ok head
      → (t ≤ 68719476735) × (head ≡ set_up_head w t)
  ready-timely a head e f =
      at_most? t 68719476735
      (λ h.
      let known = (timely h).0 in
      (h, cc))
      (λ h.
      let known = late h in
      absurd (cc))

  -- A refused set-up is the run's.
  pub begun-refused : (a : Result Head Refusal) (r : Refusal) (out : List ℕ) (at : ℕ) (w' first last marks out' : List ℕ) (end : ℕ)
      → a ≡ set_up_answer w t → a ≡ Err r → Laid out at (refused_text (number_of r)) out' end
      → Begun (Some (record { cells = n; start = t })) out at session.Over w' first last marks out' end
  unfolding Stands opening_place opening_text
  begun-refused a r out at w' first last marks out' end e f laid =
      let known = refused-late a r e f in
      let above = lt-ltb 68719476735 t known.1 in
      record { stands = rw above; lines = rw above (laid_as out out' at end _ _ laid (ap refused_text known.0)) }

  -- An accepted set-up is the run's, with the arrays of an empty wheel.
  pub begun-ready : (a : Result Head Refusal) (head : Head) (w' rest first last marks out : List ℕ) (at : ℕ) (out' : List ℕ) (end : ℕ)
      → a ≡ set_up_answer w t → a ≡ Ok head → w' ≡ set_up_words w t
      → first ≡ replicate 384 4096 → last ≡ replicate 384 4096 → marks ≡ replicate 6 0
      → Laid out at (ready_text n t) out' end
      → Begun (Some (record { cells = n; start = t })) out at (session.Open (n * 8) head.dial) (w' ++ rest) first last marks out' end
  unfolding Stands opening_place opening_text head_lists empty_head last_tick
  begun-ready a head w' rest first last marks out at out' end e f q x y z laid =
      let accepted = ready-timely a head e f in
      let h = accepted.0 in
      let known = timely h in
      let below = le-ltb 68719476735 t h in
      let words : w' ≡ fresh_words w = q ∙ known.1 in
      let long' : length w' ≡ n * 8 = ap length words ∙ fresh-length w ∙ long in
      let whole : take (n * 8) (w' ++ rest) ≡ fresh_words w = take_at w' rest (n * 8) long' ∙ words in
      record {
        stands =
            rw below
            (record {
              model = fresh n t;
              place = refl;
              shows =
                  rw (whole, x, y, z, accepted.1)
                  (subst (λ (k : ℕ). DialShows (head_lists (empty_head t (fresh_store w)) (fresh_words w)) (empty_head t (fresh_store w)).dial (fresh k t)) size
                  (set-up-shows w t (omega (arith, size)) (omega (arith, size)) h));
            });
        lines = rw below laid;
      }

-- A bad first line ends the run.
pub begun-wrong : (out : List ℕ) (at : ℕ) (w first last marks out' : List ℕ) (end : ℕ) → Laid out at bad_text out' end
    → Begun None out at session.Over w first last marks out' end
unfolding Stands opening_place opening_text
begun-wrong out at w first last marks out' end laid = record { stands = refl; lines = laid }

module _ (was : Session Dial) (w first last marks line out : List ℕ) (at : ℕ) (p : Place) where
  -- The first line.
  pub answered-first : (now : Session Dial) (w' out' : List ℕ) (end : ℕ) → was ≡ session.Fresh
      → (Blank w first last marks Before → Begun (opening_of (command_of (read_line line))) out at now w' first last marks out' end)
      → Stands was w first last marks p
      → Answered p line out at now w' first last marks out' end
  unfolding Stands following printed
  answered-first now w' out' end e begun s =
      let blank : Blank w first last marks p = subst (λ (x : Session Dial). Stands x w first last marks p) e s in
      let known = begun (subst (λ (x : Place). Blank w first last marks x) blank.place blank) in
      rw blank.place (record { stands = known.stands; lines = known.lines })

  -- A line after it.
  pub answered-next : (n : ℕ) (d d' : Dial) (v first' last' marks' out' : List ℕ) (end : ℕ) → was ≡ session.Open n d → length v ≡ n
      → Obeyed (call_of (command_of (read_line line))) (lists_of (take n w) first last marks d.due) d out at (lists_of v first' last' marks' d'.due) d' out' end
      → Stands was w first last marks p
      → Answered p line out at (session.Open n d') (v ++ drop n w) first' last' marks' out' end
  unfolding Stands following printed
  answered-next n d d' v first' last' marks' out' end e long obeyed s =
      let opened : Opened n d w first last marks p = subst (λ (x : Session Dial). Stands x w first last marks p) e s in
      let known = obeyed-shown _ _ _ _ _ _ _ _ (call_of (command_of (read_line line))) opened.model obeyed opened.shows in
      rw opened.place
      (record {
        stands =
            record {
              model = call_model (call_of (command_of (read_line line))) opened.model;
              place = refl;
              shows = rw (take_at v (drop n w) n long) known.0;
            };
        lines = known.1;
      })

  -- Once the run is over.
  pub answered-over : (out' : List ℕ) (end : ℕ) → was ≡ session.Over → Laid out at [] out' end → Stands was w first last marks p
      → Answered p line out at session.Over w first last marks out' end
  unfolding Stands following printed
  answered-over out' end e laid s =
      let over : p ≡ Ended = subst (λ (x : Session Dial). Stands x w first last marks p) e s in
      rw over (record { stands = refl; lines = laid })
