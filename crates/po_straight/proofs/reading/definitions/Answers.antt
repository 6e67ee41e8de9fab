use Rattle.std.proofs.Common.{arith, sym, ap, ◌∙◌, ◌≡◌, ◌+◌, ◌<◌, ◌≤◌, ◌^◌, ◌∷◌, [], ◌++◌, map, length, length-append, subst, refl}
use Rattle.std.specs.Prelude.{sum_by}
use Rattle.std.proofs.lemmas.List.{map_push, length-map}
use Rattle.po_straight.specs.Definitions.{graph_size, signature_of, known_with}
use Rattle.po_straight.proofs.Sequences.{front_start, front_more, front_end, front_stuck, known_differ, names_defined, too_many, too_large, one_more_size}
use Rattle.po_straight.proofs.reading.definitions.Goals as goal

pub loop-at-init : goal.loop-at-init
loop-at-init c = rw (c.new-functions.ensures, c.new-definitions.ensures)
    (record { front = front_start c.args.lexemes.now; known = refl; distinct = tt; few = omega arith; sized = refl; small = omega arith; within = omega arith })

pub definition_at-requires : goal.definition_at-requires
definition_at-requires c =
    let i = c.loop-at.invariant in
    record { short = c.requires; few = omega (arith, ap length i.known, length-map c.loop-at.definitions signature_of, i.few); differ = i.distinct }

pub returns-in_default-clause-none : goal.returns-in_default-clause-none
returns-in_default-clause-none c =
    front_stuck c.loop-at.definitions c.loop-at.functions c.args.lexemes.now c.loop-at.at c.loop-at-test.true c.loop-at.invariant.known
    (rw c.in_default.is at c.in_ok-definition.ensures.none) c.loop-at.invariant.front

pub returns-then-len-eq-MOST_FUNCTIONS-clause-none : goal.returns-then-len-eq-MOST_FUNCTIONS-clause-none
returns-then-len-eq-MOST_FUNCTIONS-clause-none c =
    let differ = known_differ c.loop-at.functions (signature_of c.in-Some.definition) c.loop-at.invariant.distinct (rw c.in-Some.is at c.in_ok-definition.ensures.fresh) in
    too_many c.loop-at.definitions c.loop-at.functions c.in-Some.definition c.args.lexemes.now c.loop-at.at _ differ (rw c.in-Some.is at c.in_ok-definition.ensures.found) c.loop-at.invariant.front
    (sym c.len.ensures ∙ c.if-len-eq-MOST_FUNCTIONS.true)

pub returns-then-size-gt-MOST_FILE_SIZE-clause-none : goal.returns-then-size-gt-MOST_FILE_SIZE-clause-none
returns-then-size-gt-MOST_FILE_SIZE-clause-none c =
    let e : c.loop-at.size + c.size_of-size.result ≡ sum_by graph_size c.loop-at.definitions + graph_size c.in-Some.definition =
    ap (λ n. n + c.size_of-size.result) c.loop-at.invariant.sized ∙ ap (λ n. sum_by graph_size c.loop-at.definitions + n) c.size_of-size.ensures in
    let differ = known_differ c.loop-at.functions (signature_of c.in-Some.definition) c.loop-at.invariant.distinct (rw c.in-Some.is at c.in_ok-definition.ensures.fresh) in
    too_large c.loop-at.definitions c.loop-at.functions c.in-Some.definition c.args.lexemes.now c.loop-at.at _ differ (rw c.in-Some.is at c.in_ok-definition.ensures.found) c.loop-at.invariant.front
    (subst (λ n. 2 ^ 24 < n) e c.if-size-gt-MOST_FILE_SIZE.true)

pub loop-at-preserved : goal.loop-at-preserved
loop-at-preserved c =
    let stands = rw c.in-Some.is at c.in_ok-definition.ensures.found in
    let known = rw c.in-Some.is at c.in_ok-definition.ensures.known in
    let differ = known_differ c.loop-at.functions (signature_of c.in-Some.definition) c.loop-at.invariant.distinct (rw c.in-Some.is at c.in_ok-definition.ensures.fresh) in
    let grown : c.push.new.self ≡ c.loop-at.definitions ++ c.in-Some.definition ∷ [] = c.in_ok-push.ensures.ok in
    let longer : length c.push.new.self ≡ length c.loop-at.definitions + 1 = ap length grown ∙ length-append c.loop-at.definitions (c.in-Some.definition ∷ []) in
    let e : c.loop-at.size + c.size_of-size.result ≡ sum_by graph_size c.loop-at.definitions + graph_size c.in-Some.definition =
    ap (λ n. n + c.size_of-size.result) c.loop-at.invariant.sized ∙ ap (λ n. sum_by graph_size c.loop-at.definitions + n) c.size_of-size.ensures in
    record {
      front = front_more c.loop-at.definitions c.push.new.self c.loop-at.functions _ c.in-Some.definition _ _ c.args.lexemes.now differ stands grown known c.loop-at.invariant.front;
      known = known ∙ ap (λ v. known_with v c.in-Some.definition) c.loop-at.invariant.known ∙
          sym (map_push signature_of c.loop-at.definitions c.in-Some.definition) ∙ ap (λ v. map signature_of v) (sym grown);
      distinct = rw known differ;
      few = omega (arith, longer, c.len.ensures);
      sized = e ∙ sym (one_more_size c.loop-at.definitions c.in-Some.definition) ∙ ap (λ v. sum_by graph_size v) (sym grown);
      small = c.if-size-gt-MOST_FILE_SIZE.false;
      within = (rw c.in-Some.is at c.in_ok-definition.ensures.within).1;
    }

pub returns-clause-found : goal.returns-clause-found
returns-clause-found c = record {
  defined = front_end c.loop-at.definitions c.loop-at.functions c.args.lexemes.now c.loop-at.at c.loop-at-test.false c.loop-at.invariant.front;
  distinct = rw (ap (λ v. map (λ f. f.name) v) c.loop-at.invariant.known ∙ names_defined c.loop-at.definitions) at c.loop-at.invariant.distinct;
  few = c.loop-at.invariant.few;
  small = subst (λ n. n ≤ 2 ^ 24) c.loop-at.invariant.sized c.loop-at.invariant.small;
}
