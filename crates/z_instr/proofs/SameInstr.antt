-- Instructions of one operation with the same fields are equal: what else they hold has at most one proof.
use Rattle.std.proofs.Common.{◌≡◌, ◌<◌}
use Rattle.std.proofs.Props.{props}
use mathlib.Core.HLevel.{is_prop→PathP}
use Rattle.z_instr.specs.declared.instr.Instr.{Instr}
use Rattle.z_instr.specs.declared.op.Op.{Op}
use Rattle.z_instr.specs.declared.table.TheConstants.{ROWS}
use Rattle.z_instr.specs.Made.{IsAllowed, fields_of}
use Rattle.z_instr.specs.Reading.{AreSame}

same_op : (o p : Op) → o.number ≡ p.number → o ≡ p
same_op o p e =
    λ k. record {
      number = e k;
      known = is_prop→PathP (λ j. e j < ROWS) (λ j. hlevel props) o.known p.known k;
    }

pub from_fields : (i j : Instr) → i.op.number ≡ j.op.number → fields_of i ≡ fields_of j → i ≡ j
from_fields i j e f =
    let o = same_op i.op j.op e in
    λ k. record {
      op = o k;
      r1 = (f k).r1;
      r2 = (f k).r2;
      r3 = (f k).r3;
      x = (f k).x;
      b = (f k).b;
      d = (f k).d;
      b2 = (f k).b2;
      d2 = (f k).d2;
      imm = (f k).imm;
      mask = (f k).mask;
      r1_in = is_prop→PathP (λ l. (f l).r1 < 16) (λ l. hlevel props) i.r1_in j.r1_in k;
      r2_in = is_prop→PathP (λ l. (f l).r2 < 16) (λ l. hlevel props) i.r2_in j.r2_in k;
      r3_in = is_prop→PathP (λ l. (f l).r3 < 16) (λ l. hlevel props) i.r3_in j.r3_in k;
      x_in = is_prop→PathP (λ l. (f l).x < 16) (λ l. hlevel props) i.x_in j.x_in k;
      b_in = is_prop→PathP (λ l. (f l).b < 16) (λ l. hlevel props) i.b_in j.b_in k;
      b2_in = is_prop→PathP (λ l. (f l).b2 < 16) (λ l. hlevel props) i.b2_in j.b2_in k;
      mask_in = is_prop→PathP (λ l. (f l).mask < 16) (λ l. hlevel props) i.mask_in j.mask_in k;
      shaped = is_prop→PathP (λ l. IsAllowed (o l) (f l)) (λ l. hlevel props) i.shaped j.shaped k;
    }

same_fields : (i j : Instr) → AreSame i j → fields_of i ≡ fields_of j
same_fields i j s =
    λ k. record {
      r1 = s.r1 k;
      r2 = s.r2 k;
      r3 = s.r3 k;
      x = s.x k;
      b = s.b k;
      d = s.d k;
      b2 = s.b2 k;
      d2 = s.d2 k;
      imm = s.imm k;
      mask = s.mask k;
    }

pub same_instr : (i j : Instr) → AreSame i j → i ≡ j
same_instr i j s = from_fields i j s.op (same_fields i j s)
