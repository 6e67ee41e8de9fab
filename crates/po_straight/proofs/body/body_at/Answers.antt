use Rattle.std.proofs.Common.{refl, ap, subst, ◌∙◌, ◌^◌, ◌<◌, ◌≤◌}
use Rattle.po_straight.specs.Definitions.{nodes_times_registers}
use Rattle.po_straight.proofs.WholeBodies.{no_semicolon, no_brace, no_value, too_large, body_whole}
use Rattle.po_straight.proofs.body.body_at.Goals as goal

pub returns-then-not-stands-2-clause-none : goal.returns-then-not-stands-2-clause-none
returns-then-not-stands-2-clause-none c =
    let n = c.semicolon_from-stop.ensures in
    no_semicolon c.args.scope.now c.args.lexemes.now c.args.at c.semicolon_from-stop.result n.after n.before n.here
    (λ h. absurd {A = ⊥} (cc (c.if-not-stands-2.ensures.1 h)))

pub returns-then-not-stands-3-clause-none : goal.returns-then-not-stands-3-clause-none
returns-then-not-stands-3-clause-none c =
    let n = c.semicolon_from-stop.ensures in
    no_brace c.args.scope.now c.args.lexemes.now c.args.at c.semicolon_from-stop.result n.after n.before n.here
    (c.if-not-stands-2.ensures.0 refl) (λ h. absurd {A = ⊥} (cc (c.if-not-stands-3.ensures.1 h)))

pub returns-in_default-clause-none : goal.returns-in_default-clause-none
returns-in_default-clause-none c =
    let n = c.semicolon_from-stop.ensures in
    no_value c.args.scope.now c.args.lexemes.now c.args.at c.semicolon_from-stop.result n.after n.before n.here
    (rw c.in_default.is at c.in_ok-value.ensures.none)

pub returns-then-graph_size_of-gt-MOST_GRAPH_SIZE-clause-none : goal.returns-then-graph_size_of-gt-MOST_GRAPH_SIZE-clause-none
returns-then-graph_size_of-gt-MOST_GRAPH_SIZE-clause-none c =
    let n = c.semicolon_from-stop.ensures in
    too_large c.args.scope.now c.args.lexemes.now c.args.at c.semicolon_from-stop.result n.after n.before n.here
    c.in-Some.value c.requires.differ (rw c.in-Some.is at c.in_ok-value.ensures.found)
    (subst (λ n. 2 ^ 22 < n) (c.graph_size_of.ensures ∙ ap (λ n. nodes_times_registers n c.in-Some.value) c.parameters.ensures) c.if-graph_size_of-gt-MOST_GRAPH_SIZE.true)

pub returns-clause-found : goal.returns-clause-found
returns-clause-found c =
    let n = c.semicolon_from-stop.ensures in
    body_whole c.args.scope.now c.args.lexemes.now c.args.at c.semicolon_from-stop.result n.after n.before n.here
    c.index-lexemes-at.result c.in-Some.value (c.if-not-stands.ensures.0 refl) (c.if-not-stands-2.ensures.0 refl) (c.if-not-stands-3.ensures.0 refl)
    (rw c.in-Some.is at c.in_ok-value.ensures.found)
    (subst (λ n. n ≤ 2 ^ 22) (c.graph_size_of.ensures ∙ ap (λ n. nodes_times_registers n c.in-Some.value) c.parameters.ensures) c.if-graph_size_of-gt-MOST_GRAPH_SIZE.false)
