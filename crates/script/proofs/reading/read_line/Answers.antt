-- Too long, a bad word, or a word and what follows it.
use Rattle.std.proofs.Common.{ℕ, List, sym, ◌∙◌, eqb, rules, tests}
use Rattle.std.specs.declared.slice.Split.{Split}
use Rattle.std.specs.List.{slice_split}
use Rattle.std.proofs.lemmas.Iterator.{YieldsList}
use Rattle.std.proofs.lemmas.Iterator.Splits.{YieldsList-from_slice_split}
use Rattle.std.proofs.lemmas.Iterator.Consumers.{YieldsList-at}
use Rattle.script.proofs.Lines.{read-long, read-bad, road-next, fields-turn, fields-end, rest-bad, rest_more, rest-full, rest_over, read-lost, read-whole}
use Rattle.script.proofs.reading.read_line.Given as given
use Rattle.script.proofs.reading.read_line.Goals as goal

-- What the split gives.
abbrev Road : Split ℕ (Unit {0}) → List ℕ → Type 0
Road it s = YieldsList (given.iterator-loop-field).next_gives (λ x. x.now) it (slice_split (λ b. eqb b 32) s)

pub returns-then-s-gt128 : goal.returns-then-s-gt128
returns-then-s-gt128 c = sym (read-long _ c.if-s-gt128.true)

pub returns-in_err-word : goal.returns-in_err-word
returns-in_err-word c =
    let cut = c.split-fields.ensures in
    let road : Road c.split-fields.result c.args.s.now =
    YieldsList-from_slice_split _ (λ b. eqb b 32) c.args.s.now cut.rest cut.done cut.closure (λ x b q k. search (rules, tests)) in
    let first = road-next road _ c.in_ok-next.was c.next.ensures.steps in
    c.from_residual-in_err-word.ensures
    ∙ sym (read-bad _ _ _ (search rules) first.0 (sym c.word.ensures ∙ c.in_err-word.was))

pub returns-in_err-number : goal.returns-in_err-number
returns-in_err-number c =
    let cut = c.split-fields.ensures in
    let road : Road c.split-fields.result c.args.s.now =
    YieldsList-from_slice_split _ (λ b. eqb b 32) c.args.s.now cut.rest cut.done cut.closure (λ x b q k. search (rules, tests)) in
    let first = road-next road _ c.in_ok-next.was c.next.ensures.steps in
    let rest = YieldsList-at c.into_iter-field-iterator.ensures.into_iter_gives first.1 in
    let turn =
    fields-turn rest c.loop-field.yielded c.loop-field.yielded_by c.next-in-loop-field.result c.next-in-loop-field.new.self
    c.in-Some.field c.in-Some.is c.next-in-loop-field.ensures.steps in
    c.from_residual-in_err-number.ensures
    ∙ sym (read-lost _ _ _ _ (search rules) first.0 (sym c.word.ensures ∙ c.in_ok-word.was)
    (rest-bad _ _ _ c.loop-field.invariant _ _ turn (sym c.number.ensures ∙ c.in_err-number.was)))

pub returns-in_err-numbers : goal.returns-in_err-numbers
returns-in_err-numbers c =
    let cut = c.split-fields.ensures in
    let road : Road c.split-fields.result c.args.s.now =
    YieldsList-from_slice_split _ (λ b. eqb b 32) c.args.s.now cut.rest cut.done cut.closure (λ x b q k. search (rules, tests)) in
    let first = road-next road _ c.in_ok-next.was c.next.ensures.steps in
    let rest = YieldsList-at c.into_iter-field-iterator.ensures.into_iter_gives first.1 in
    let turn =
    fields-turn rest c.loop-field.yielded c.loop-field.yielded_by c.next-in-loop-field.result c.next-in-loop-field.new.self
    c.in-Some.field c.in-Some.is c.next-in-loop-field.ensures.steps in
    c.from_residual-in_err-numbers.ensures
    ∙ sym (read-lost _ _ _ _ (search rules) first.0 (sym c.word.ensures ∙ c.in_ok-word.was)
    (rest-full _ _ _ c.loop-field.invariant _ _ _ turn (sym c.number.ensures ∙ c.in_ok-number.was) (sym c.one_more.ensures ∙ c.in_err-numbers.was)))

pub loop-field-preserved : goal.loop-field-preserved
loop-field-preserved c =
    let cut = c.split-fields.ensures in
    let road : Road c.split-fields.result c.args.s.now =
    YieldsList-from_slice_split _ (λ b. eqb b 32) c.args.s.now cut.rest cut.done cut.closure (λ x b q k. search (rules, tests)) in
    let first = road-next road _ c.in_ok-next.was c.next.ensures.steps in
    let rest = YieldsList-at c.into_iter-field-iterator.ensures.into_iter_gives first.1 in
    let turn =
    fields-turn rest c.loop-field.yielded c.loop-field.yielded_by c.next-in-loop-field.result c.next-in-loop-field.new.self
    c.in-Some.field c.in-Some.is c.next-in-loop-field.ensures.steps in
    rest_more _ _ _ c.loop-field.invariant _ _ _ _ turn (sym c.number.ensures ∙ c.in_ok-number.was) (sym c.one_more.ensures ∙ c.in_ok-numbers.was)

pub returns : goal.returns
returns c =
    let cut = c.split-fields.ensures in
    let road : Road c.split-fields.result c.args.s.now =
    YieldsList-from_slice_split _ (λ b. eqb b 32) c.args.s.now cut.rest cut.done cut.closure (λ x b q k. search (rules, tests)) in
    let first = road-next road _ c.in_ok-next.was c.next.ensures.steps in
    let rest = YieldsList-at c.into_iter-field-iterator.ensures.into_iter_gives first.1 in
    let end =
    fields-end rest c.loop-field.yielded c.loop-field.yielded_by c.next-in-loop-field.result c.next-in-loop-field.new.self
    c.in-None.is c.next-in-loop-field.ensures.steps in
    sym (read-whole _ _ _ _ _ (search rules) first.0 (sym c.word.ensures ∙ c.in_ok-word.was) (rest_over _ _ _ c.loop-field.invariant end))
