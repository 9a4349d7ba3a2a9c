use mathlib.Core.Path.{refl, ◌∙◌}
use native.Mathlib.Omega.{arith}
use Rattle.matching.proofs.answers.Asked.{asked_more, taken_is, as_told, few_filters, each_passed}
use Rattle.matching.proofs.answers.Asked.{count_is, few_slots}
use Rattle.matching.proofs.answers.answered.Goals as goal

pub loop-j-init : goal.loop-j-init
loop-j-init c = (omega arith, refl, tt, few_filters c.args.m.now c.args.fs c.args.n c.requires.1)

pub ask-requires : goal.ask-requires
ask-requires c =
    let t = c.args.table.now in
    let e = count_is t c.le_at-c.ensures in
    let n = few_slots t c.requires.0 in
    let k = c.loop-j.invariant.3 in
    let h = c.loop-j-test.true in
    let g = c.well_formed.1.1.0.1.0.1 in
    let i = c.loop-j.invariant.1 in
    record {
      table_value = (c.requires.0, each_passed c.args.m.now c.args.fs c.args.n c.requires.1 c.loop-j.j _ h (omega arith));
      c_value = (e, omega arith, omega arith, omega arith);
    }

pub loop-j-preserved : goal.loop-j-preserved
loop-j-preserved c =
    let t = c.args.table.now in
    let k = c.loop-j.invariant.3 in
    let h = c.loop-j-test.true in (
      omega arith,
      c.ask.auto.hits ∙ c.loop-j.invariant.1,
      asked_more t c.args.m.now c.args.fs c.loop-j.hits _ c.loop-j.j _ _ (count_is t c.le_at-c.ensures) c.well_formed.1.1.0.1.0.1 (omega arith)
          c.loop-j.invariant.2 c.ask.ensures,
      k,
    )

pub listed_hits-requires : goal.listed_hits-requires
listed_hits-requires c =
    let t = c.args.table.now in
    let e = count_is t c.le_at-c.ensures in
    let n = few_slots t c.requires.0 in
    let i = c.loop-j.invariant.1 in
    record { table_value = c.requires.0; c_value = (e, omega arith, omega arith, c.loop-j.invariant.3) }

pub returns : goal.returns
returns c =
    let m = c.args.m.now in
    let both = as_told c.args.table.now m c.args.fs c.args.n c.loop-j.hits _ _ _
    (taken_is c.args.table.now m c.args.fs c.args.n c.loop-j.hits c.loop-j.j c.loop-j.invariant.0 c.loop-j-test.false c.loop-j.invariant.2)
    (c.listed_hits.ensures.value, c.listed_hits.ensures.row_after) in record { value = both.0; row_after = both.1 }
