-- The lines of fired records, one by one.
-- Assumes nothing.
use Prim.Native.Nat.{ℕ, zero, suc, ◌+◌, ◌*◌}
use native.Mathlib.Omega.{arith}
use native.Mathlib.Numerals.{add-one}
use mathlib.Core.List.{List, [], ◌∷◌, ◌++◌, append-nil, append_assoc}
use mathlib.Core.Path.{◌≡◌, refl, sym, ap, ◌∙◌}
use lib.ListN.{get_or, drop}
use lib.Seq.{get_or-drop, drop-drop}
use Rattle.script.specs.Answers.{answer_line, Laid}
use Rattle.script.proofs.Laying.{laid_as, laid-join}
use Rattle.meaning.specs.Calls.{Shown}
use Rattle.wheel.specs.Answers.{record_in, records_in}
use Rattle.wheel_script.specs.Texts.{fired_text, fired_lines}

-- One record more.
records-snoc : (i : ℕ) (out : List ℕ) → records_in i out ++ (record_in (drop (i * 4) out) ∷ []) ≡ records_in (suc i) out
unfolding records_in
records-snoc zero out = refl
records-snoc (suc i) out =
    let same : 4 + i * 4 ≡ suc i * 4 = omega arith in
    ap (λ (s : List Shown). record_in out ∷ s)
    (rw (← same, ← drop-drop (i * 4) 4 out) (records-snoc i (drop 4 out)))

-- One line more.
lines_snoc : (ss : List Shown) (s : Shown) → fired_lines ss ++ fired_text s ≡ fired_lines (ss ++ (s ∷ []))
unfolding fired_lines
lines_snoc [] s = sym (append-nil (fired_text s))
lines_snoc (t ∷ ss) s = append_assoc (fired_text t) (fired_lines ss) (fired_text s) ∙ ap (λ (x : List ℕ). fired_text t ++ x) (lines_snoc ss s)

-- The line of record i has its four words.
pub fired-line :
    (out out' : List ℕ) (at end : ℕ) (records : List ℕ) (i cell ticket deadline load : ℕ)
    → cell ≡ get_or records (i * 4 + 0) 0
    → ticket ≡ get_or records (i * 4 + 1) 0
    → deadline ≡ get_or records (i * 4 + 2) 0
    → load ≡ get_or records (i * 4 + 3) 0
    → Laid out at (answer_line (102 ∷ 105 ∷ 114 ∷ 101 ∷ 100 ∷ []) (cell ∷ ticket ∷ deadline ∷ load ∷ []) [] [] []) out' end
    → Laid out at (fired_text (record_in (drop (i * 4) records))) out' end
unfolding record_in
fired-line out out' at end records i cell ticket deadline load p q r s a =
    laid_as out out' at end _ _ a
    (rw (p, q, r, s, get_or-drop (i * 4) records 0 0, get_or-drop (i * 4) records 1 0, get_or-drop (i * 4) records 2 0, get_or-drop (i * 4) records 3 0))

pub lines_start :
    (out out' : List ℕ) (at end : ℕ) (records : List ℕ)
    → Laid out at [] out' end
    → Laid out at (fired_lines (records_in 0 records)) out' end
unfolding fired_lines records_in
lines_start out out' at end records a = a

pub lines-again :
    (out out₁ out₂ : List ℕ) (at r s : ℕ) (records : List ℕ) (i : ℕ)
    → Laid out at (fired_lines (records_in i records)) out₁ r
    → Laid out₁ r (fired_text (record_in (drop (i * 4) records))) out₂ s
    → Laid out at (fired_lines (records_in (i + 1) records)) out₂ s
lines-again out out₁ out₂ at r s records i a b =
    laid_as out out₂ at s _ _
    (laid-join out out₁ out₂ at r s _ _ a b)
    (lines_snoc (records_in i records) (record_in (drop (i * 4) records))
    ∙ ap fired_lines (records-snoc i records ∙ ap (λ (n : ℕ). records_in n records) (sym (add-one i))))
