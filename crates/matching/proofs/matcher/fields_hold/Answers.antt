-- A law for each way out.
use Rattle.matching.proofs.matcher.Ways.{authors_no, kinds_no, since_no, until_is_all}
use Rattle.matching.proofs.matcher.fields_hold.Goals as goal

pub returns-then-not-listed : goal.returns-then-not-listed
returns-then-not-listed c = let a = c.args in authors_no a.m.now a.row.now a.pubkey.now a.f _ _ c.listed.ensures c.if-not-listed.true-raw

pub returns-then-not-kind_listed : goal.returns-then-not-kind_listed
returns-then-not-kind_listed c = let a = c.args in kinds_no a.m.now a.row.now a.pubkey.now a.f _ _ c.listed.ensures c.if-not-listed.false-raw c.kind_listed.ensures c.if-not-kind_listed.true-raw

pub returns-then-not-since_holds : goal.returns-then-not-since_holds
returns-then-not-since_holds c =
    let a = c.args in
    since_no a.m.now a.row.now a.pubkey.now a.f _ _ c.listed.ensures c.if-not-listed.false-raw c.kind_listed.ensures c.if-not-kind_listed.false-raw c.ranges.time c.since_holds.ensures c.if-not-since_holds.true-raw

pub returns : goal.returns
returns c =
    let a = c.args in
    until_is_all a.m.now a.row.now a.pubkey.now a.f _ _ c.listed.ensures c.if-not-listed.false-raw c.kind_listed.ensures c.if-not-kind_listed.false-raw c.ranges.time c.since_holds.ensures c.if-not-since_holds.false-raw
    c.until_holds.ensures
