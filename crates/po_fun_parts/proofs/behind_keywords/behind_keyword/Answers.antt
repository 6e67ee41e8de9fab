use Rattle.po_fun_parts.proofs.behind_keywords.behind_keyword.Goals as goal

pub returns-in-If-clause-found : goal.returns-in-If-clause-found
returns-in-If-clause-found c = λ types s. rw c.in-If.is (c.if_start.ensures.found types s)

pub returns-in-If-clause-none : goal.returns-in-If-clause-none
returns-in-If-clause-none c = λ types s. rw c.in-If.is (c.if_start.ensures.none types s)

pub returns-in-While-clause-found : goal.returns-in-While-clause-found
returns-in-While-clause-found c = λ types s. rw c.in-While.is (c.while_start.ensures.found types s)

pub returns-in-While-clause-none : goal.returns-in-While-clause-none
returns-in-While-clause-none c = λ types s. rw c.in-While.is (c.while_start.ensures.none types s)

pub returns-in-For-clause-found : goal.returns-in-For-clause-found
returns-in-For-clause-found c = λ types s. rw c.in-For.is (c.for_start.ensures.found types s)

pub returns-in-For-clause-none : goal.returns-in-For-clause-none
returns-in-For-clause-none c = λ types s. rw c.in-For.is (c.for_start.ensures.none types s)

pub returns-in-Switch-clause-found : goal.returns-in-Switch-clause-found
returns-in-Switch-clause-found c = λ types s. rw c.in-Switch.is (c.switch_start.ensures.found types s)

pub returns-in-Switch-clause-none : goal.returns-in-Switch-clause-none
returns-in-Switch-clause-none c = λ types s. rw c.in-Switch.is (c.switch_start.ensures.none types s)

pub returns-in-Case-clause-found : goal.returns-in-Case-clause-found
returns-in-Case-clause-found c = λ types s. rw c.in-Case.is (c.case_start.ensures.found types s)

pub returns-in-Case-clause-none : goal.returns-in-Case-clause-none
returns-in-Case-clause-none c = λ types s. rw c.in-Case.is (c.case_start.ensures.none types s)

pub returns-in-Goto-clause-found : goal.returns-in-Goto-clause-found
returns-in-Goto-clause-found c = λ types s. rw c.in-Goto.is (c.goto_start.ensures.found types)

pub returns-in-Goto-clause-none : goal.returns-in-Goto-clause-none
returns-in-Goto-clause-none c = λ types s. rw c.in-Goto.is (c.goto_start.ensures.none types)

pub returns-in-Return-clause-found : goal.returns-in-Return-clause-found
returns-in-Return-clause-found c = λ types s. rw c.in-Return.is (c.return_start.ensures.found types s)

pub returns-in-Return-clause-none : goal.returns-in-Return-clause-none
returns-in-Return-clause-none c = λ types s. rw c.in-Return.is (c.return_start.ensures.none types s)
