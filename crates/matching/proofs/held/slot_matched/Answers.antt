-- A law for each way out: the id, the fields, the tags.
use Rattle.matching.proofs.held.Ways.{id_there, id_no, tags_there, fields_differ, tags_decide}
use Rattle.matching.proofs.held.slot_matched.Goals as goal

pub id_listed-requires : goal.id_listed-requires
id_listed-requires c = id_there c.args.table.now c.requires.table_value c.args.k c.requires.k_bound c.args.m.now c.args.row.now c.args.f c.slot-s.ensures

pub returns-then-not-id_listed : goal.returns-then-not-id_listed
returns-then-not-id_listed c = id_no c.args.table.now c.requires.table_value c.args.k c.requires.k_bound c.args.m.now c.args.row.now c.args.f c.slot-s.ensures
    c.id_listed.ensures c.if-not-id_listed.true-raw

pub returns-then-not-fields_hold : goal.returns-then-not-fields_hold
returns-then-not-fields_hold c = fields_differ c.args.table.now c.requires.table_value c.args.k c.requires.k_bound c.args.m.now c.args.row.now
    c.args.f c.slot-s.ensures
    (record { sfits = c.to_signed-time.type_inv }) c.le_at.ensures.is c.to_signed-time.ensures
    c.le_at-kind.ensures.is c.le_at-2.ensures.is
    c.piece-t.ensures
    c.id_listed.ensures c.if-not-id_listed.false-raw
    c.piece.ensures c.fields_hold.ensures c.if-not-fields_hold.true-raw

pub tags_hold-requires : goal.tags_hold-requires
tags_hold-requires c = tags_there c.args.table.now c.requires.table_value c.args.k c.requires.k_bound c.args.m.now c.args.row.now
    c.args.f c.slot-s.ensures
    (record { sfits = c.to_signed-time.type_inv }) c.le_at.ensures.is c.to_signed-time.ensures
    c.le_at-kind.ensures.is c.le_at-2.ensures.is
    c.piece-t.ensures

pub returns : goal.returns
returns c = tags_decide c.args.table.now c.requires.table_value c.args.k c.requires.k_bound c.args.m.now c.args.row.now
    c.args.f c.slot-s.ensures
    (record { sfits = c.to_signed-time.type_inv }) c.le_at.ensures.is c.to_signed-time.ensures
    c.le_at-kind.ensures.is c.le_at-2.ensures.is c.piece-t.ensures
    c.id_listed.ensures c.if-not-id_listed.false-raw
    c.piece.ensures c.fields_hold.ensures c.if-not-fields_hold.false-raw
    c.tags_hold.ensures
