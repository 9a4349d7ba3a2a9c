-- A law for each way out.
use Rattle.offers.proofs.Verdicts.{was_ephemeral_lem, was_duplicate, was_older, was_newer, no_room_lem, was_stored}
use Rattle.offers.proofs.verdict.Goals as goal

pub returns-then-is_ephemeral : goal.returns-then-is_ephemeral
returns-then-is_ephemeral c =
    let p = c.requires in
    was_ephemeral_lem _ _ p.table_value p.new c.le_at.ensures.is c.is_ephemeral.ensures c.if-is_ephemeral.true

pub returns-then-held : goal.returns-then-held
returns-then-held c =
    let p = c.requires in
    was_duplicate _ _ p.table_value p.new c.le_at.ensures.is c.is_ephemeral.ensures c.if-is_ephemeral.false c.le_at-c.ensures.is
    c.id_held-held.ensures c.if-held.true

pub returns-then-newer_than : goal.returns-then-newer_than
returns-then-newer_than c =
    let p = c.requires in
    was_older _ _ p.table_value p.new c.le_at.ensures.is c.is_ephemeral.ensures c.if-is_ephemeral.false c.le_at-c.ensures.is
    c.id_held-held.ensures c.if-held.false c.find_key-k.ensures c.if-k-c.true c.slot.ensures
    c.newer_than.ensures c.if-newer_than.true

pub returns-then-k-c : goal.returns-then-k-c
returns-then-k-c c =
    let p = c.requires in
    was_newer _ _ p.table_value p.new c.le_at.ensures.is c.is_ephemeral.ensures c.if-is_ephemeral.false c.le_at-c.ensures.is
    c.id_held-held.ensures c.if-held.false c.find_key-k.ensures c.if-k-c.true c.slot.ensures
    c.newer_than.ensures c.if-newer_than.false

pub returns-then-full : goal.returns-then-full
returns-then-full c =
    let p = c.requires in
    no_room_lem _ _ p.table_value p.new c.le_at.ensures.is c.is_ephemeral.ensures c.if-is_ephemeral.false c.le_at-c.ensures.is
    c.id_held-held.ensures c.if-held.false c.find_key-k.ensures c.if-k-c.false c.is_full-full.ensures c.if-full.true c.plain_refusal.ensures

pub returns : goal.returns
returns c =
    let p = c.requires in
    was_stored _ _ p.table_value p.new c.le_at.ensures.is c.is_ephemeral.ensures c.if-is_ephemeral.false c.le_at-c.ensures.is
    c.id_held-held.ensures c.if-held.false c.find_key-k.ensures c.if-k-c.false c.is_full-full.ensures c.if-full.false
