-- The steps of the walk through one list and through all of them: what is noted in the array as far as it was come, and whether it rises.
-- Assumes nothing.
use Prim.Native.Nat.{ℕ, zero, suc, ◌+◌, ◌-◌, ◌≤◌, ◌<◌}
use native.Mathlib.Omega.{arith}
use native.Mathlib.Numerals.{add-one}
use mathlib.Core.Bool.{Bool, true, false, cond, ◌&&◌, and-true, and_assoc}
use mathlib.Core.List.{List, [], ◌∷◌, ◌++◌, append-nil, append_assoc}
use mathlib.Core.Path.{◌≡◌, refl, sym, ap, ◌∙◌}
use lib.Dec.{ltb, eqb}
use lib.ListN.{length, take, set, length-set, length-append}
use lib.Seq.{take-suc-set, length-take-le}
use borrow.Author.Tests.{le-leb, lt-leb}
use Rattle.cells.specs.Words.{word}
use Rattle.cells.specs.Stack.{no_cell, link}
use Rattle.audits.specs.AuditTests.{all_below}
use Rattle.audits.proofs.Below.{below_fails, below_step, below_end}
use Rattle.slots.specs.declared.ring.Ends.{Ends}
use Rattle.wheel_rules.specs.AuditTests.{
  stand_test,
  walked,
  closes,
  list_cells,
  ring_test,
  noted,
  list_test,
  walk_test,
  climbs,
  list_climbs,
  ListNoted,
  WalkFound,
  AllNoted,
}
use Rattle.wheel_rules.specs.declared.walk.Noted.{Noted}
use Rattle.std.specs.Option.{is_some}
use Rattle.std.specs.declared.option.Option.{Option}
use Rattle.std.specs.declared.option.Option.TheVariants.{None, Some}
use Rattle.wheel_rules.proofs.Walks.{walked_stop, walked_on, walked-few, closes-stop, closes-on, stand-none}

module _ (w : List ℕ) (n t i : ℕ) (e : Ends) (m : ℕ) (a₀ : List ℕ) where
  -- A walk that has come to cell c, behind p, with k cells noted, the last of order number x: what is noted and what is yet to be walked
  -- are the whole.
  pub record Walking (a : List ℕ) (c p k x : ℕ) (up : Bool) : Type 0 where
    pub few : k ≤ n
    pub size : length a ≡ length a₀
    pub list : take k a ++ walked (stand_test w n t i) (link w) (n - k) p c ≡ take m a₀ ++ list_cells w n t i e (n - m)
    pub ring : closes (stand_test w n t i) (link w) e.last (n - k) p c ≡ ring_test w n t i e (n - m)
    pub rise : (up && climbs w x (walked (stand_test w n t i) (link w) (n - k) p c)) ≡ climbs w 0 (list_cells w n t i e (n - m))

  -- At the start.
  pub walking_start : m ≤ n → Walking a₀ e.first no_cell m 0 true
  unfolding list_cells ring_test
  walking_start h = record { few = h; size = refl; list = refl; ring = refl; rise = refl }

  module _ (a : List ℕ) (c p k x : ℕ) (up : Bool) (v : Walking a c p k x up) where
    -- One cell further.
    pub walking_on : (a' : List ℕ) (c' x' : ℕ) → n ≤ length a₀ → k < n → stand_test w n t i p c ≡ true → a' ≡ set a k c → c' ≡ word w c 4
        → x' ≡ word w c 1
        → Walking a' c' c (k + 1) x' (up && ltb x x')
    unfolding climbs
    walking_on a' c' x' room h s q r o =
        let left : n - k ≡ suc (n - (k + 1)) = omega arith in
        let next : walked (stand_test w n t i) (link w) (n - k) p c ≡ c ∷ walked (stand_test w n t i) (link w) (n - (k + 1)) c (word w c 4) =
        rw left (walked_on (stand_test w n t i) (link w) 0 (n - (k + 1)) p c s) in
        let more : take (k + 1) a' ≡ take k a ++ (c ∷ []) =
        rw (q, add-one) (take-suc-set a k c (omega (arith, v.size))) in
        record {
          few = omega arith;
          size = ap length q ∙ simp length-set v.size;
          list =
              rw (more, r)
              (append_assoc (take k a) (c ∷ []) (walked (stand_test w n t i) (link w) (n - (k + 1)) c (word w c 4))
              ∙ ap (λ (l : List ℕ). take k a ++ l) (sym next)
              ∙ v.list);
          ring = rw r (sym (rw left (closes-on (stand_test w n t i) (link w) e.last (n - (k + 1)) p c s)) ∙ v.ring);
          rise =
              rw (r, o)
              (and_assoc up (ltb x (word w c 1)) (climbs w (word w c 1) (walked (stand_test w n t i) (link w) (n - (k + 1)) c (word w c 4)))
              ∙ ap (λ (l : List ℕ). up && climbs w x l) (sym next)
              ∙ v.rise);
        }

    module _ (r : Option Noted) (told : r ≡ cond (eqb c no_cell && eqb p e.last) (Some (record { count = k; rise = up })) None) where
      -- Where nothing is left to walk, what is noted is the whole.
      ended : walked (stand_test w n t i) (link w) (n - k) p c ≡ []
          → closes (stand_test w n t i) (link w) e.last (n - k) p c ≡ (eqb c no_cell && eqb p e.last)
          → ListNoted w n t i e m a₀ r a
      unfolding climbs
      ended x₀ y = rw told (go (eqb c no_cell && eqb p e.last) refl)
        where
          go : (b : Bool) → (eqb c no_cell && eqb p e.last) ≡ b
              → ListNoted w n t i e m a₀ (cond b (Some (record { count = k; rise = up })) None) a
          go true q =
              record {
                sound = sym q ∙ sym y ∙ v.ring;
                few = v.few;
                list = sym (append-nil (take k a)) ∙ ap (λ (l : List ℕ). take k a ++ l) (sym x₀) ∙ v.list;
                rise = sym (and-true up) ∙ ap (λ (l : List ℕ). up && climbs w x l) (sym x₀) ∙ v.rise;
              }
          go false q = record { sound = sym q ∙ sym y ∙ v.ring; few = tt; list = tt; rise = tt }

      -- The next cell does not stand there.
      pub walking-stop : stand_test w n t i p c ≡ false → ListNoted w n t i e m a₀ r a
      walking-stop s =
          ended
          (walked_stop (stand_test w n t i) (link w) 0 (n - k) p c s)
          (closes-stop (stand_test w n t i) (link w) e.last (n - k) p c s)

      -- As many are noted as there are cells.
      pub walking-full : n ≤ k → ListNoted w n t i e m a₀ r a
      unfolding walked closes
      walking-full h = let none : n - k ≡ 0 = omega arith in ended (rw none) (rw none)

  -- A list that has no first cell is walked at once.
  pub walking-none : n ≤ no_cell → m ≤ n → (f : Ends) → f ≡ e → f.first ≡ no_cell → (r : Option Noted)
      → r ≡ cond (eqb f.first no_cell && eqb no_cell f.last) (Some (record { count = m; rise = true })) None
      → ListNoted w n t i e m a₀ r a₀
  walking-none small h f same q r told =
      let none : e.first ≡ no_cell = sym (ap (λ (x : Ends). x.first) same) ∙ q in
      walking-stop a₀ e.first no_cell m 0 true (walking_start h) r (rw same at told) (stand-none w n t i no_cell e.first (omega arith))

module _ (w : List ℕ) (n t : ℕ) (ends : ℕ → Ends) where
  -- No more cells are noted than there are.
  noted-few : (i : ℕ) → length (noted w n t ends i) ≤ n
  unfolding noted list_cells
  noted-few zero = omega arith
  noted-few (suc i) =
      go (noted w n t ends i) (walked (stand_test w n t i) (link w) (n - length (noted w n t ends i)) no_cell (ends i).first)
      (walked-few (stand_test w n t i) (link w) 0 (n - length (noted w n t ends i)) no_cell (ends i).first)
      (noted-few i)
    where
      go : (xs ys : List ℕ) → length ys ≤ n - length xs → length xs ≤ n → length (xs ++ ys) ≤ n
      go xs ys h l = omega (arith, length-append xs ys)

  -- Nor are more counted.
  pub found-few : (r : Noted) → WalkFound w n t ends (Some r) → r.count ≤ n
  found-few r d = omega (arith, d.count, noted-few 385)

  -- There are too many cells, or a list is not sound.
  pub found-unsound : walk_test w n t ends ≡ false → WalkFound w n t ends None
  found-unsound h = record { sound = sym h; count = tt; rise = tt }

  -- There are too many cells.
  pub walk-many : no_cell < n → walk_test w n t ends ≡ false
  unfolding walk_test
  walk-many h = rw (lt-leb n no_cell h)

  -- There are not, so that the lists decide.
  walk-lists : n ≤ no_cell → walk_test w n t ends ≡ all_below 385 (list_test w n t ends)
  unfolding walk_test
  walk-lists h = rw (le-leb n no_cell h)

  module _ (a₀ : List ℕ) where
    -- The lists below i are walked, and sound: their m cells are noted.
    pub record Along (a : List ℕ) (i m : ℕ) (up : Bool) : Type 0 where
      pub upto : i ≤ 385
      pub few : m ≤ n
      pub size : length a ≡ length a₀
      pub sound : all_below i (list_test w n t ends) ≡ true
      pub list : take m a ≡ noted w n t ends i
      pub rise : up ≡ all_below i (list_climbs w n t ends)

    -- At the start nothing is walked.
    pub along-start : Along a₀ 0 0 true
    unfolding noted all_below
    along-start = record { upto = omega arith; few = omega arith; size = refl; sound = refl; list = refl; rise = refl }

    module _ (room : n ≤ length a₀) (a a' : List ℕ) (i m : ℕ) (up : Bool) (v : Along a i m up) where
      -- So many are noted before list i.
      counted : m ≡ length (noted w n t ends i)
      counted = sym (length-take-le m a (omega (arith, v.few, v.size))) ∙ ap length v.list

      -- What the walk found is the test of list i.
      tested : (o : Option Noted) → ListNoted w n t i (ends i) m a o a' → is_some o ≡ list_test w n t ends i
      unfolding list_test
      tested o d = d.sound ∙ ap (λ (k : ℕ). ring_test w n t i (ends i) (n - k)) counted

      -- One list further.
      pub along-on : (r : Noted) → ListNoted w n t i (ends i) m a (Some r) a' → i < 385 → length a' ≡ length a
          → Along a' (i + 1) r.count (up && r.rise)
      unfolding noted all_below list_climbs
      along-on r d h same =
          let climbed : r.rise ≡ list_climbs w n t ends i =
          d.rise ∙ ap (λ (k : ℕ). climbs w 0 (list_cells w n t i (ends i) (n - k))) counted in
          record {
            upto = omega arith;
            few = d.few;
            size = same ∙ v.size;
            sound = below_step (list_test w n t ends) i v.sound (sym (tested (Some r) d));
            list =
                rw add-one
                (d.list
                ∙ ap (λ (l : List ℕ). l ++ list_cells w n t i (ends i) (n - m)) v.list
                ∙ ap (λ (k : ℕ). noted w n t ends i ++ list_cells w n t i (ends i) (n - k)) counted);
            rise = rw (v.rise, climbed, add-one);
          }

      -- The list is not sound.
      pub along-fails : n ≤ no_cell → i < 385 → ListNoted w n t i (ends i) m a None a' → AllNoted w n t ends None a'
      along-fails small h d =
          record {
            found = found-unsound (walk-lists small ∙ below_fails (list_test w n t ends) 385 i h (sym (tested None d)));
            list = tt;
          }

    -- All lists are walked.
    pub along-end : (a : List ℕ) (i m : ℕ) (up : Bool) → n ≤ no_cell → n ≤ length a₀ → Along a i m up → 385 ≤ i
        → AllNoted w n t ends (Some (record { count = m; rise = up })) a
    along-end a i m up small room v h =
        let last : i ≡ 385 = omega (arith, v.upto) in
        let list : take m a ≡ noted w n t ends 385 = rw last at v.list in
        record {
          found = record {
            sound = below_end (list_test w n t ends) i 385 last v.sound ∙ sym (walk-lists small);
            count = sym (length-take-le m a (omega (arith, v.few, v.size))) ∙ ap length list;
            rise = rw last at v.rise;
          };
          list = list;
        }

-- The fronts of two lists are equally long.
pub same-front : (m : ℕ) (a b : List ℕ) → m ≤ length a → m ≤ length b → length (take m a) ≡ length (take m b)
same-front m a b h k = length-take-le m a h ∙ sym (length-take-le m b k)
