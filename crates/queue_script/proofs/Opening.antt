-- Set-up of a queue of 1 to 512 cells by the first line, and the lines after it.
-- Assumes nothing.
use Prim.Native.Nat.{ℕ, ◌*◌, ◌/◌, ◌≤◌}
use native.Mathlib.Omega.{arith}
use mathlib.Core.Bool.{true, false}
use mathlib.Core.List.{List, [], ◌++◌}
use mathlib.Core.Path.{◌≡◌, refl, sym, ap, subst, ◌∙◌}
use lib.ListN.{length, take, drop}
use lib.Seq.{take_at}
use Rattle.cells.specs.Store.{wrong_size}
use Rattle.cells.proofs.Cases.{test}
use Rattle.cells.proofs.Fresh.{size-right, fresh-length}
use Rattle.meaning.specs.Refusals.{bad_arity}
use Rattle.queue.specs.Model.{fresh_model}
use Rattle.queue.specs.Shows.{Shows}
use Rattle.queue.specs.SetUps.{set_up_answer, set_up_words}
use Rattle.queue.specs.declared.head.Head.{Head}
use Rattle.std.specs.Prelude.{None, Some, Result, Ok, Err}
use Rattle.cells.specs.Causes.{number_of}
use Rattle.cells.specs.declared.refusal.Refusal.{Refusal}
use Rattle.cells.specs.declared.refusal.Refusal.TheVariants as causes
use Rattle.queue.proofs.SetUpCases.{refused-arity, accepted-both}
use Rattle.queue.proofs.SetUpShown.{set-up-ready}
use Rattle.script.specs.Answers.{Laid}
use Rattle.script.specs.Grammar.{read_line}
use Rattle.script.proofs.Laying.{laid_as}
use Rattle.queue_script.specs.Commands.{command_of}
use Rattle.queue_script.specs.Texts.{bad_text, refused_text, ready_text}
use Rattle.queue_script.specs.Spoken.{call_of, Obeyed}
use Rattle.queue_script.specs.Runs.{Place, Ended, opening_of, opening_text, opening_place, call_model, printed, following, Blank, Opened, Stands, Begun, Answered}
use Rattle.script.specs.declared.session.Session.{Session}
use Rattle.script.specs.declared.session.Session.TheVariants as session
use Rattle.queue_script.proofs.Speaking.{obeyed-shown}

module _ (w : List ℕ) (n d : ℕ) (long : length w ≡ n * 8) (some : 1 ≤ n) (most : n ≤ 512) where
  size : length w / 8 ≡ n
  size = omega arith

  right : wrong_size (length w / 8) ≡ false
  right = size-right (length w / 8) (omega (arith, size)) (omega (arith, size))

  -- A refusal is by 2, and the arity is bad.
  refused-two : (a : Result Head Refusal) (r : Refusal) → a ≡ set_up_answer w d → a ≡ Err r
      → (number_of r ≡ 2) × ((bad_arity d).applies ≡ true)
  refused-two a r e f =
      test (bad_arity d).applies
      (λ bad.
      let known = (refused-arity w d right bad).0 in
      let two : r ≡ causes.BadArity = cc in
      (ap number_of two, bad))
      (λ good.
      let known = (accepted-both w d right good).0 in
      absurd (cc))

  -- An accepted arity is not bad.
  ready-right : (a : Result Head Refusal) (h : Head) → a ≡ set_up_answer w d → a ≡ Ok h → (bad_arity d).applies ≡ false
  ready-right a h e f =
      test (bad_arity d).applies
      (λ bad.
      let known = (refused-arity w d right bad).0 in
      absurd (cc))
      (λ good. good)

  -- A refused set-up is the run's.
  pub begun-refused : (a : Result Head Refusal) (r : Refusal) (out : List ℕ) (at : ℕ) (w' out' : List ℕ) (end : ℕ)
      → a ≡ set_up_answer w d → a ≡ Err r → Laid out at (refused_text (number_of r)) out' end
      → Begun (Some (record { cells = n; arity = d })) out at session.Over w' out' end
  unfolding Stands opening_place opening_text
  begun-refused a r out at w' out' end e f laid =
      let known = refused-two a r e f in
      record { stands = rw known.1; lines = rw known.1 (laid_as out out' at end _ _ laid (ap refused_text known.0)) }

  -- An accepted set-up is the run's.
  pub begun-ready : (a : Result Head Refusal) (h : Head) (w' rest out : List ℕ) (at : ℕ) (out' : List ℕ) (end : ℕ)
      → a ≡ set_up_answer w d → a ≡ Ok h → w' ≡ set_up_words w d → Laid out at (ready_text n d) out' end
      → Begun (Some (record { cells = n; arity = d })) out at (session.Open (n * 8) h) (w' ++ rest) out' end
  unfolding Stands opening_place opening_text
  begun-ready a h w' rest out at out' end e f p laid =
      let good = ready-right a h e f in
      let long' : length w' ≡ n * 8 = ap length (p ∙ (accepted-both w d right good).1) ∙ fresh-length w ∙ long in
      record {
        stands =
            rw good
            (record {
              model = fresh_model d n;
              place = refl;
              shows =
                  rw (take_at w' rest (n * 8) long', p)
                  (subst (λ (k : ℕ). Shows h (set_up_words w d) (fresh_model d k)) size (set-up-ready w d h (sym e ∙ f)));
            });
        lines = rw good laid;
      }

-- A bad first line ends the run.
pub begun-wrong : (out : List ℕ) (at : ℕ) (w out' : List ℕ) (end : ℕ) → Laid out at bad_text out' end
    → Begun None out at session.Over w out' end
unfolding Stands opening_place opening_text
begun-wrong out at w out' end laid = record { stands = refl; lines = laid }

module _ (was : Session Head) (w line out : List ℕ) (at : ℕ) (p : Place) where
  -- The first line.
  pub answered-first : (now : Session Head) (w' out' : List ℕ) (end : ℕ) → was ≡ session.Fresh
      → (4096 ≤ length w → Begun (opening_of (command_of (read_line line))) out at now w' out' end)
      → Stands was w p
      → Answered p line out at now w' out' end
  unfolding Stands following printed
  answered-first now w' out' end e begun s =
      let blank : Blank w p = subst (λ (x : Session Head). Stands x w p) e s in
      let known = begun blank.words in
      rw blank.place (record { stands = known.stands; lines = known.lines })

  -- A line after it.
  pub answered-next : (n : ℕ) (h h' : Head) (v out' : List ℕ) (end : ℕ) → was ≡ session.Open n h → length v ≡ n
      → Obeyed (call_of (command_of (read_line line))) h (take n w) out at h' v out' end
      → Stands was w p
      → Answered p line out at (session.Open n h') (v ++ drop n w) out' end
  unfolding Stands following printed
  answered-next n h h' v out' end e long obeyed s =
      let opened : Opened n h w p = subst (λ (x : Session Head). Stands x w p) e s in
      let known = obeyed-shown _ _ _ _ _ _ _ _ (call_of (command_of (read_line line))) opened.model obeyed opened.shows in
      rw opened.place
      (record {
        stands =
            record {
              model = call_model (call_of (command_of (read_line line))) opened.model;
              place = refl;
              shows = rw (take_at v (drop n w) n long) known.0;
            };
        lines = known.1;
      })

  -- Once the run is over.
  pub answered-over : (out' : List ℕ) (end : ℕ) → was ≡ session.Over → Laid out at [] out' end → Stands was w p → Answered p line out at session.Over w out' end
  unfolding Stands following printed
  answered-over out' end e laid s =
      let over : p ≡ Ended = subst (λ (x : Session Head). Stands x w p) e s in
      rw over (record { stands = refl; lines = laid })
