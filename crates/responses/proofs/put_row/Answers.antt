-- An arm for each row.
use borrow.Author.Rules.{rules}
use Rattle.reply.specs.Replies.{reason_of}
use Rattle.responses.proofs.Lines.{row_put, rest_put, reason_none}
use Rattle.responses.proofs.put_row.Goals as goal

pub returns-in_default : goal.returns-in_default
returns-in_default c = rest_put _ (search (reason_none, rules)) c.put-in_default.ensures

pub put-requires : goal.put-requires
unfolding reason_of
put-requires c = search rules

pub put-requires-in-2 : goal.put-requires-in-2
unfolding reason_of
put-requires-in-2 c = search rules

pub put-requires-in-3 : goal.put-requires-in-3
unfolding reason_of
put-requires-in-3 c = search rules

pub put-requires-in-4 : goal.put-requires-in-4
unfolding reason_of
put-requires-in-4 c = search rules

pub put-requires-in-5 : goal.put-requires-in-5
unfolding reason_of
put-requires-in-5 c = search rules

pub put-requires-in-6 : goal.put-requires-in-6
unfolding reason_of
put-requires-in-6 c = search rules

pub put-requires-in-7 : goal.put-requires-in-7
unfolding reason_of
put-requires-in-7 c = search rules

pub put-requires-in-8 : goal.put-requires-in-8
unfolding reason_of
put-requires-in-8 c = search rules

pub put-requires-in-9 : goal.put-requires-in-9
unfolding reason_of
put-requires-in-9 c = search rules

pub put-requires-in-10 : goal.put-requires-in-10
unfolding reason_of
put-requires-in-10 c = search rules

pub put-requires-in-11 : goal.put-requires-in-11
unfolding reason_of
put-requires-in-11 c = search rules

pub put-requires-in-12 : goal.put-requires-in-12
unfolding reason_of
put-requires-in-12 c = search rules

pub put-requires-in_default : goal.put-requires-in_default
unfolding reason_of
put-requires-in_default c = search rules

pub shape_of-out-in-1 : goal.shape_of-out-in-1
unfolding reason_of
shape_of-out-in-1 c = search rules

pub returns-in-1 : goal.returns-in-1
unfolding reason_of
returns-in-1 c = row_put 1 c.in-1.is c.put.ensures

pub shape_of-out-in-2 : goal.shape_of-out-in-2
unfolding reason_of
shape_of-out-in-2 c = search rules

pub returns-in-2 : goal.returns-in-2
unfolding reason_of
returns-in-2 c = row_put 2 c.in-2.is c.put-in-2.ensures

pub shape_of-out-in-3 : goal.shape_of-out-in-3
unfolding reason_of
shape_of-out-in-3 c = search rules

pub returns-in-3 : goal.returns-in-3
unfolding reason_of
returns-in-3 c = row_put 3 c.in-3.is c.put-in-3.ensures

pub shape_of-out-in-4 : goal.shape_of-out-in-4
unfolding reason_of
shape_of-out-in-4 c = search rules

pub returns-in-4 : goal.returns-in-4
unfolding reason_of
returns-in-4 c = row_put 4 c.in-4.is c.put-in-4.ensures

pub shape_of-out-in-5 : goal.shape_of-out-in-5
unfolding reason_of
shape_of-out-in-5 c = search rules

pub returns-in-5 : goal.returns-in-5
unfolding reason_of
returns-in-5 c = row_put 5 c.in-5.is c.put-in-5.ensures

pub shape_of-out-in-6 : goal.shape_of-out-in-6
unfolding reason_of
shape_of-out-in-6 c = search rules

pub returns-in-6 : goal.returns-in-6
unfolding reason_of
returns-in-6 c = row_put 6 c.in-6.is c.put-in-6.ensures

pub shape_of-out-in-7 : goal.shape_of-out-in-7
unfolding reason_of
shape_of-out-in-7 c = search rules

pub returns-in-7 : goal.returns-in-7
unfolding reason_of
returns-in-7 c = row_put 7 c.in-7.is c.put-in-7.ensures

pub shape_of-out-in-8 : goal.shape_of-out-in-8
unfolding reason_of
shape_of-out-in-8 c = search rules

pub returns-in-8 : goal.returns-in-8
unfolding reason_of
returns-in-8 c = row_put 8 c.in-8.is c.put-in-8.ensures

pub shape_of-out-in-9 : goal.shape_of-out-in-9
unfolding reason_of
shape_of-out-in-9 c = search rules

pub returns-in-9 : goal.returns-in-9
unfolding reason_of
returns-in-9 c = row_put 9 c.in-9.is c.put-in-9.ensures

pub shape_of-out-in-10 : goal.shape_of-out-in-10
unfolding reason_of
shape_of-out-in-10 c = search rules

pub returns-in-10 : goal.returns-in-10
unfolding reason_of
returns-in-10 c = row_put 10 c.in-10.is c.put-in-10.ensures

pub shape_of-out-in-11 : goal.shape_of-out-in-11
unfolding reason_of
shape_of-out-in-11 c = search rules

pub returns-in-11 : goal.returns-in-11
unfolding reason_of
returns-in-11 c = row_put 11 c.in-11.is c.put-in-11.ensures

pub shape_of-out-in-12 : goal.shape_of-out-in-12
unfolding reason_of
shape_of-out-in-12 c = search rules

pub returns-in-12 : goal.returns-in-12
unfolding reason_of
returns-in-12 c = row_put 12 c.in-12.is c.put-in-12.ensures

pub shape_of-out-in_default : goal.shape_of-out-in_default
unfolding reason_of
shape_of-out-in_default c = search rules
