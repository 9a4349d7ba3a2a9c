-- A law for each way out: the id, the fields, the conditions.
use borrow.Author.Rules.{rules}
use Rattle.event.specs.Lent.{said, event_of}
use Rattle.matching.specs.Inner.Found.{filter_by}
use Rattle.matching.proofs.matcher.Ways.{ids_no, fields_no, all_are, id_test, fields_test, conditions_test}
use Rattle.matching.proofs.matcher.event_matched.Goals as goal

pub returns-then-not-listed : goal.returns-then-not-listed
returns-then-not-listed c =
    let a = c.args in
    ids_no (filter_by a.m.now a.row.now a.f) (said a.b.now a.p.id) (event_of a.b.now a.p.body)
    (id_test a.m.now a.row.now a.b.now a.f a.p c.listed.ensures c.piece.ensures) c.if-not-listed.true-raw

pub returns-then-not-fields_hold : goal.returns-then-not-fields_hold
returns-then-not-fields_hold c =
    let a = c.args in
    fields_no (filter_by a.m.now a.row.now a.f) (said a.b.now a.p.id) (event_of a.b.now a.p.body)
    (id_test a.m.now a.row.now a.b.now a.f a.p c.listed.ensures c.piece.ensures) c.if-not-listed.false-raw
    (fields_test a.m.now a.row.now a.b.now a.f a.p c.fields_hold.ensures c.piece-key.ensures c.kind_of.ensures
    (record { sfits = search rules }) (record { sfits = search rules })) c.if-not-fields_hold.true-raw

pub returns : goal.returns
returns c =
    let a = c.args in
    all_are (filter_by a.m.now a.row.now a.f) (said a.b.now a.p.id) (event_of a.b.now a.p.body)
    (id_test a.m.now a.row.now a.b.now a.f a.p c.listed.ensures c.piece.ensures) c.if-not-listed.false-raw
    (fields_test a.m.now a.row.now a.b.now a.f a.p c.fields_hold.ensures c.piece-key.ensures c.kind_of.ensures
    (record { sfits = search rules }) (record { sfits = search rules })) c.if-not-fields_hold.false-raw
    (conditions_test a.m.now a.row.now a.b.now a.f a.p c.all_hold.ensures)

pub all_hold-requires : goal.all_hold-requires
all_hold-requires c = c.requires
