use Rattle.std.proofs.Common.{◌≡◌, ◌∙◌, ◌∷◌, ◌++◌, ◌+◌, ◌-◌, suc, [], arith, sym, ap, refl, subst}
use Rattle.std.proofs.lemmas.Result.{IfOk-weaker}
use Rattle.std.proofs.lemmas.Bool.{iff_false}
use Rattle.po_tree.specs.NameSets.{AreSame}
use Rattle.po_exp_parts.specs.Places.{signs_between}
use Rattle.po_stmt_laws.specs.Continuing.{declaration}
use Rattle.po_stmt_read.proofs.Results.{both_of_ok}
use Rattle.po_stmt_read.proofs.SameNames.{declaration_as, names_behind, same_back}
use Rattle.po_stmt_read.proofs.Reading.{without_room, without_start, read_started, if_alone, else_answer, without_test}
use Rattle.po_stmt_read.proofs.Variables.{without_declaration, variables_answer, loop_answer}
use Rattle.po_stmt_read.proofs.Items.{no_items_lead, item_leads, items_end, without_item, item_without_room, statement_is_item}
use Rattle.po_stmt_read.proofs.read.+statements.Goals as goal

-- a statement

pub statement-returns-then-room-eq0-clause-read : goal.statement-returns-then-room-eq0-clause-read
statement-returns-then-room-eq0-clause-read t c = λ types same s left h. without_room (omega (arith, c.if-room-eq0.true)) h

pub statement-returns-in_default-clause-read : goal.statement-returns-in_default-clause-read
statement-returns-in_default-clause-read t c = λ types same s left h. without_start (rw c.in_default.is at (c.in_ok-begun.ensures.none types same)) h

pub statement-returns-clause-read : goal.statement-returns-clause-read
statement-returns-clause-read t c = λ types same.
    let started = rw c.in-Some.is at (c.in_ok-begun.ensures.found types same) in
    IfOk-weaker c.read_on.result _ _ (read_started types c.args.room (c.args.room - 1) c.args.tokens.now.list c.args.at c.in-Some.behind c.args.to c.in-Some.begun (omega (arith, c.if-room-eq0.false)) started)
    (c.read_on.ensures.read types same)

-- one statement behind what stands before it

pub part-returns-in_default-clause-read : goal.part-returns-in_default-clause-read
part-returns-in_default-clause-read t c = λ types same. rw c.in_default.is at (c.in_ok-s.ensures.read types same)

pub part-returns-clause-read : goal.part-returns-clause-read
part-returns-clause-read t c = λ types same. rw c.in_ok-new.ensures (rw c.in-Some.is at (c.in_ok-s.ensures.read types same))

pub while_loop-returns-in_default-clause-read : goal.while_loop-returns-in_default-clause-read
while_loop-returns-in_default-clause-read t c = λ types same s left h. (rw c.in_default.is at (c.in_ok-body.ensures.read types same)) h.body left h.reads

pub while_loop-returns-clause-read : goal.while_loop-returns-clause-read
while_loop-returns-clause-read t c = λ types same. record { body = c.in-Some.body; whole = refl; reads = rw c.in-Some.is at (c.in_ok-body.ensures.read types same) }

pub for_loop-returns-in_default-clause-read : goal.for_loop-returns-in_default-clause-read
for_loop-returns-in_default-clause-read t c = λ types same s left h. (rw c.in_default.is at (c.in_ok-body.ensures.read types same)) h.body left h.reads

pub for_loop-returns-clause-read : goal.for_loop-returns-clause-read
for_loop-returns-clause-read t c = λ types same. record { body = c.in-Some.body; whole = c.with_body.ensures; reads = rw c.in-Some.is at (c.in_ok-body.ensures.read types same) }

pub plain_for-returns-clause-read : goal.plain_for-returns-clause-read
plain_for-returns-clause-read t c = λ types same. rw c.first_of.ensures at (rw c.in_ok-head.ensures at (c.for_loop.ensures.read types same))

pub switch_statement-returns-in_default-clause-read : goal.switch_statement-returns-in_default-clause-read
switch_statement-returns-in_default-clause-read t c = λ types same s left h. (rw c.in_default.is at (c.in_ok-body.ensures.read types same)) h.body left h.reads

pub switch_statement-returns-clause-read : goal.switch_statement-returns-clause-read
switch_statement-returns-clause-read t c = λ types same. record { body = c.in-Some.body; whole = refl; reads = rw c.in-Some.is at (c.in_ok-body.ensures.read types same) }

pub case_statement-returns-in_default-clause-read : goal.case_statement-returns-in_default-clause-read
case_statement-returns-in_default-clause-read t c = λ types same s left h. (rw c.in_default.is at (c.in_ok-body.ensures.read types same)) h.body left h.reads

pub case_statement-returns-clause-read : goal.case_statement-returns-clause-read
case_statement-returns-clause-read t c = λ types same. record { body = c.in-Some.body; whole = refl; reads = rw c.in-Some.is at (c.in_ok-body.ensures.read types same) }

pub default_statement-returns-in_default-clause-read : goal.default_statement-returns-in_default-clause-read
default_statement-returns-in_default-clause-read t c = λ types same s left h. (rw c.in_default.is at (c.in_ok-body.ensures.read types same)) h.body left h.reads

pub default_statement-returns-clause-read : goal.default_statement-returns-clause-read
default_statement-returns-clause-read t c = λ types same. record { body = c.in-Some.body; whole = refl; reads = rw c.in-Some.is at (c.in_ok-body.ensures.read types same) }

pub labelled_statement-returns-in_default-clause-read : goal.labelled_statement-returns-in_default-clause-read
labelled_statement-returns-in_default-clause-read t c = λ types same s left h. (rw c.in_default.is at (c.in_ok-body.ensures.read types same)) h.body left h.reads

pub labelled_statement-returns-clause-read : goal.labelled_statement-returns-clause-read
labelled_statement-returns-clause-read t c = λ types same. record { body = c.in-Some.body; whole = refl; reads = rw c.in-Some.is at (c.in_ok-body.ensures.read types same) }

-- `if`

pub branches-returns-in_default-clause-read : goal.branches-returns-in_default-clause-read
branches-returns-in_default-clause-read t c = λ types same s left h. (rw c.in_default.is at (c.in_ok-body.ensures.read types same)) h.body h.between h.reads

pub branches-returns-then-not-word_stands-clause-read : goal.branches-returns-then-not-word_stands-clause-read
branches-returns-then-not-word_stands-clause-read t c = λ types same.
    if_alone (rw c.in-Some.is at (c.in_ok-body.ensures.read types same)) (iff_false c.if-not-word_stands.ensures.first refl)

pub branches-returns-clause-read : goal.branches-returns-clause-read
branches-returns-clause-read t c = λ types same.
    let body = rw c.in-Some.is at (c.in_ok-body.ensures.read types same) in
    IfOk-weaker c.behind_else.result _ _ (else_answer types c.args.room c.args.tokens.now.list c.args.at c.in-Some.between c.args.to c.args.x c.in-Some.body body c.if-not-word_stands.ensures.behind)
    (c.behind_else.ensures.read types (rw c.in_ok-body.ensures.kept same))

pub behind_else-returns-in_default-clause-read : goal.behind_else-returns-in_default-clause-read
behind_else-returns-in_default-clause-read t c = λ types same s left h. (rw c.in_default.is at (c.in_ok-other.ensures.read types same)) h.other left h.reads

pub behind_else-returns-clause-read : goal.behind_else-returns-clause-read
behind_else-returns-clause-read t c = λ types same. record { other = c.in-Some.other; whole = refl; reads = rw c.in-Some.is at (c.in_ok-other.ensures.read types same) }

-- `do`

pub do_loop-returns-in_default-clause-read : goal.do_loop-returns-in_default-clause-read
do_loop-returns-in_default-clause-read t c = λ types same s left h. (rw c.in_default.is at (c.in_ok-body.ensures.read types same)) h.body h.between h.reads

pub do_loop-returns-in_default-2-clause-read : goal.do_loop-returns-in_default-2-clause-read
do_loop-returns-in_default-2-clause-read t c = λ types same s left h.
    without_test (rw c.in-Some.is at (c.in_ok-body.ensures.read types same)) (rw c.in_default-2.is at (c.in_ok-x.ensures.none types (rw c.in_ok-body.ensures.kept same))) h

pub do_loop-returns-clause-read : goal.do_loop-returns-clause-read
do_loop-returns-clause-read t c = λ types same. record {
  body = c.in-Some.body;
  value = c.in-Some-2.x;
  between = _;
  whole = refl;
  reads = rw c.in-Some.is at (c.in_ok-body.ensures.read types same);
  test = rw c.in-Some-2.is at (c.in_ok-x.ensures.found types (rw c.in_ok-body.ensures.kept same));
}

-- `for` with a declaration first

pub variables-returns-clause-read : goal.variables-returns-clause-read
variables-returns-clause-read t c = rw c.in_ok-open_scope.ensures.ok at c.in_ok-found.ensures.read

pub variables_inside-returns-in_default-clause-read : goal.variables_inside-returns-in_default-clause-read
variables_inside-returns-in_default-clause-read t c = λ types same s left h.
    let none = rw c.in_default.is at c.in_ok-d.ensures.none in
    without_declaration (λ d rest w. none d rest (declaration_as same w)) h

pub variables_inside-returns-clause-read : goal.variables_inside-returns-clause-read
variables_inside-returns-clause-read t c = λ types same.
    let d = declaration_as (same_back types _ same) (rw c.in-Some.is at c.in_ok-d.ensures.found) in
    let inner = names_behind same d (rw c.in_ok-d.ensures.kept at c.in_ok-declare.ensures.0) in
    IfOk-weaker c.behind_variables.result _ _ (variables_answer types c.args.room c.args.tokens.now.list c.args.at c.in-Some.behind c.args.to c.in-Some.d d) (c.behind_variables.ensures.read d.behind inner)

pub behind_variables-returns-in_default-clause-read : goal.behind_variables-returns-in_default-clause-read
behind_variables-returns-in_default-clause-read t c = λ types same s left h. (rw c.in_default.is at (c.in_ok-test.ensures.none types same)) h.test h.step h.last h.steps

pub behind_variables-returns-clause-read : goal.behind_variables-returns-clause-read
behind_variables-returns-clause-read t c = λ types same.
    let steps = rw c.in-Some.is at (c.in_ok-test.ensures.found types same) in
    IfOk-weaker c.for_loop.result _ _ (loop_answer types c.args.room c.args.tokens.now.list c.args.at c.in-Some.last c.args.to c.args.d c.in-Some.test c.in-Some.step steps)
    (rw c.in_ok-head.ensures at (c.for_loop.ensures.read types same))

-- blocks

pub block-returns-in_default-clause-read : goal.block-returns-in_default-clause-read
block-returns-in_default-clause-read t c = λ types same s left h. (rw c.in_default.is at (c.in_ok-xs.ensures.read types same)) h.xs left h.reads

pub block-returns-clause-read : goal.block-returns-clause-read
block-returns-clause-read t c = λ types same. record { xs = c.in-Some.xs; whole = refl; reads = rw c.in-Some.is at (c.in_ok-xs.ensures.read types same) }

pub items_inside-loop-alloc-init : goal.items_inside-loop-alloc-init
items_inside-loop-alloc-init t c = record {
  leads = λ types same. (types, same, rw c.new-xs.ensures (no_items_lead types c.args.room (signs_between c.args.tokens.now.list c.args.at c.args.to)));
  scopes = refl;
  after = omega arith;
}

pub items_inside-loop-alloc-preserved : goal.items_inside-loop-alloc-preserved
items_inside-loop-alloc-preserved t c =
    let i = c.loop-alloc.invariant in
    let place = rw c.in-Some.is at c.in_ok-x.ensures.within in
    record {
      leads = λ types same.
          let b = i.leads types same in
          let x = rw c.in-Some.is at (c.in_ok-x.ensures.read b.0 b.1) in
          (x.0, x.1, rw c.in_ok-push.ensures.ok (item_leads (iff_false c.stands.ensures.first c.loop-alloc-test.true) b.2 x.2));
      scopes = c.in_ok-x.ensures.kept ∙ i.scopes;
      after = omega (arith, i.after, place.0);
    }

pub items_inside-returns-in_default-clause-read : goal.items_inside-returns-in_default-clause-read
items_inside-returns-in_default-clause-read t c = λ types same zs left h.
    let b = c.loop-alloc.invariant.leads types same in
    without_item (iff_false c.stands.ensures.first c.loop-alloc-test.true) (rw c.in_default.is at (c.in_ok-x.ensures.read b.0 b.1)) b.2 h

pub items_inside-returns-clause-read : goal.items_inside-returns-clause-read
items_inside-returns-clause-read t c = λ types same. items_end (c.loop-alloc.invariant.leads types same).2 (rw c.loop-alloc-test.false at c.stands.ensures.behind)

pub items-returns-clause-read : goal.items-returns-clause-read
items-returns-clause-read t c = rw c.in_ok-open_scope.ensures.ok at c.in_ok-found.ensures.read

-- an item

pub item-returns-then-room-eq0-clause-read : goal.item-returns-then-room-eq0-clause-read
item-returns-then-room-eq0-clause-read t c = λ types same s inner left h. item_without_room (omega (arith, c.if-room-eq0.true)) h

pub item-returns-clause-read : goal.item-returns-clause-read
item-returns-clause-read t c = λ types same.
    let d = declaration_as (same_back types _ same) (rw c.in-Some.is at c.in_ok-d.ensures.found) in
    let inner = names_behind same d (rw c.in_ok-d.ensures.kept at c.in_ok-declare.ensures.0) in
    (d.behind, inner, declaration c.in-Some.d d.behind _ (omega (arith, c.if-room-eq0.false)) d.formed d.nested d.printed)

pub item-returns-in_default-clause-read : goal.item-returns-in_default-clause-read
item-returns-in_default-clause-read t c = λ types same.
    let none = rw c.in_default.is at c.in_ok-d.ensures.none in
    let now = subst (λ z. AreSame types z.typedefs) (sym c.in_ok-d.ensures.kept) same in
    both_of_ok c.statement.result
    (λ found read kept. statement_is_item types _ c.args.room c.args.tokens.now.list c.args.at c.args.to (subst (λ z. AreSame types z.typedefs) (sym kept) now) (λ d rest w. none d rest (declaration_as same w)) found read)
    (c.statement.ensures.read types now) c.statement.ensures.kept
