-- A raw character is one byte; of another, the octet k, and the character is passed with its last octet.
use native.Mathlib.Omega.{arith}
use Rattle.spell.proofs.Chars.{step_raw, step_in, step_out, utf8_below, within_few, raw_small, code_small}
use Rattle.spell.proofs.steps.advance.Goals as goal

pub octet-byte-requires : goal.octet-byte-requires
octet-byte-requires c =
    let b = c.char_at-c.ensures in
    record {
      n_bound = code_small b.sized c.if-c.false;
      k_in_bounds = utf8_below c.args.p.now c.args.i c.args.k _ b.is c.requires.i_in_bounds c.requires.within c.if-c.false;
    }

pub returns-then-k-octets : goal.returns-then-k-octets
returns-then-k-octets c = step_in c.args.p.now c.args.i c.args.k _ c.char_at-c.ensures.is c.requires.i_in_bounds c.requires.within c.if-c.false c.octet-byte.ensures c.octets.ensures c.if-k-octets.true

pub returns : goal.returns
returns c = step_out c.args.p.now c.args.i c.args.k _ c.char_at-c.ensures.is c.requires.i_in_bounds c.requires.within c.if-c.false c.octet-byte.ensures c.octets.ensures c.if-k-octets.false

pub overflow_cast-result : goal.overflow_cast-result
overflow_cast-result c = omega (arith, raw_small c.char_at-c.ensures.sized c.if-c.true)

pub returns-then-c : goal.returns-then-c
returns-then-c c = step_raw c.args.p.now c.args.i c.args.k _ c.char_at-c.ensures.is c.requires.i_in_bounds c.requires.within c.if-c.true

pub overflow_add-k : goal.overflow_add-k
overflow_add-k c = omega (arith, within_few c.args.p.now c.args.i c.args.k c.requires.within)
