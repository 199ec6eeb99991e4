-- What the handle that an arm or put told is good for later, on the plain list. For both engines.
-- Assumes nothing.
use Prim.Native.Nat.{ℕ}
use mathlib.Core.Bool.{Bool, true, false, cond}
use mathlib.Core.List.{List}
use mathlib.Core.Option.{Option, none, some}
use mathlib.Core.Path.{◌≡◌, refl, sym, ap, ◌∙◌}
use Rattle.meaning.specs.Entries.{Entry, named}
use Rattle.meaning.specs.Plain.{Plain, top, filed}
use Rattle.meaning.specs.Refusals.{first_of, stale, is_none}
use Rattle.meaning.specs.Calls.{
  Call,
  Remove,
  Cancel,
  Answer,
  Refused,
  Handle,
  Load,
  is_refused,
  filing,
  freeing,
  accepted,
  causes,
  refused,
  outcome,
  result,
}
use Rattle.meaning.specs.Runs.{after}
use Rattle.meaning.specs.Kept.{Kept}
use Rattle.promises.specs.Handles.{ended, load_of, Stale}
use Rattle.promises.proofs.Lives.{life, names-new, stale-refused}

-- A call that told a handle took the top of the free stack and the counter's number.
pub record Filed (call : Call) (key load c k : ℕ) (p : Plain) : Type 0 where
  pub files : outcome 64 6 call p ≡ filing key load p
  pub cell : c ≡ top p.free
  pub ticket : k ≡ p.counter

module _ (call : Call) (key load c k : ℕ) (p : Plain) where
  pub told-handle : (is_refused (result 64 6 call p).answer ≡ false → outcome 64 6 call p ≡ filing key load p)
      → Handle c k ≡ (result 64 6 call p).answer
      → Filed call key load c k p
  unfolding result filing is_refused
  told-handle accepts q =
      let files : outcome 64 6 call p ≡ filing key load p = accepts (ap is_refused (sym q)) in
      let told : Handle c k ≡ Handle (top p.free) p.counter = q ∙ rw files in
      record { files = files; cell = cc; ticket = cc }

  -- At first the handle names the new entry.
  pub filed-new : Kept p → Filed call key load c k p → named c k (result 64 6 call p).next.entries ≡ some (filed key load p)
  unfolding result filing
  filed-new kept f = rw (f.cell, f.ticket, f.files) (names-new p kept key load)

  -- From then on it names the entry's load, until a call ends the entry.
  pub filed-life : Kept p → Filed call key load c k p → (later : List Call)
      → load_of (named c k (after 64 6 later (result 64 6 call p).next).entries)
      ≡ cond (ended 64 6 c k later (result 64 6 call p).next) none (some load)
  unfolding after
  filed-life kept f later = rw (f.cell, f.ticket) (life 64 6 key load call p kept f.files later)

-- What a cancel or remove answers, by the load that its handle names.
freed : Option ℕ → Answer
freed none = Refused 7
freed (some load) = Load load

freed-ended : (over : Bool) (load : ℕ) → freed (cond over none (some load)) ≡ cond over (Refused 7) (Load load)
unfolding freed
freed-ended true load = refl
freed-ended false load = refl

module _ (c k : ℕ) (p : Plain) where
  cancel-answers : (result 64 6 (Cancel c k) p).answer ≡ freed (load_of (named c k p.entries))
  unfolding result outcome causes first_of stale accepted freeing refused freed
  cancel-answers = go (named c k p.entries) refl
    where
      go : (o : Option Entry) → named c k p.entries ≡ o
          → (first_of (causes 64 6 (Cancel c k) p) refused (accepted 64 6 (Cancel c k) p)).answer ≡ freed (load_of (named c k p.entries))
      go none e = unfold is_none load_of in rw e
      go (some x) e = unfold is_none load_of in rw e

  module _ (over : Bool) (load : ℕ) (names : load_of (named c k p.entries) ≡ cond over none (some load)) where
    -- The load, or 7 once the entry has ended.
    pub told-cancel : (result 64 6 (Cancel c k) p).answer ≡ cond over (Refused 7) (Load load)
    told-cancel = cancel-answers ∙ ap freed names ∙ freed-ended over load

    pub told-remove : (result 64 6 (Remove c k) p).answer ≡ cond over (Refused 7) (Load load)
    unfolding result outcome causes accepted
    told-remove = told-cancel

    -- Every call with the handle is refused once the entry has ended.
    pub told-stale : over ≡ true → Stale 64 6 c k p
    told-stale e = stale-refused 64 6 c k p (unloaded (named c k p.entries) (names ∙ rw e))
      where
        unloaded : (o : Option Entry) → load_of o ≡ none → o ≡ none
        unloaded none q = refl
        unloaded (some x) q = unfold load_of in cc
