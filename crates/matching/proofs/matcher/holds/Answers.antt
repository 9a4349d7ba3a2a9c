use mathlib.Core.Path.{◌∙◌}
use Rattle.matching.proofs.matcher.Tags.{going_start, going_none, going_spent, going_hit, going_miss}
use Rattle.matching.proofs.matcher.Tags.{fits_not, fits_is}
use Rattle.matching.proofs.matcher.Lists.{left_end, left_hit, left_miss, test}
use Rattle.matching.proofs.matcher.holds.Goals as goal

pub tags-init : goal.tags-init
tags-init c = going_start _ _ _ c.requires c.first-x.ensures

pub returns-in_default : goal.returns-in_default
returns-in_default c = going_none c.tags.invariant c.in_default.is

pub tags-preserved-in_default-second_string : goal.tags-preserved-in_default-second_string
tags-preserved-in_default-second_string c = going_miss c.tags.invariant c.in-Some.is c.next-x.ensures (fits_not _ _ _ _ c.second_string.ensures c.in_default-second_string.is)

pub tags-preserved : goal.tags-preserved
tags-preserved c = going_miss c.tags.invariant c.in-Some.is c.next-x.ensures
    (fits_is _ _ _ _ c.second_string.ensures c.in-Some-second_string.is c.piece-value.ensures ∙ left_end _ _ _ _ c.members.invariant c.members-test.false)

pub returns-then-same : goal.returns-then-same
returns-then-same c = going_hit c.tags.invariant c.in-Some.is
    (fits_is _ _ _ _ c.second_string.ensures c.in-Some-second_string.is c.piece-value.ensures
    ∙ left_hit _ _ _ _ c.members.invariant c.members-test.true (test _ c.same.ensures c.piece.ensures c.if-same.true))

pub members-preserved : goal.members-preserved
members-preserved c = left_miss _ _ _ _ c.members.invariant c.members-test.true (test _ c.same.ensures c.piece.ensures c.if-same.false)

pub returns : goal.returns
returns c = going_spent c.tags.invariant c.tags-test.false
