-- `Writer::put_row` meets its contract: the head, and the body behind it; nothing where the field is absent. Assumes nothing.
use native.Mathlib.Omega.{arith}
use mathlib.Core.Path.{refl, sym, ◌∙◌}
use Rattle.writer.specs.Item.{body_of}
use Rattle.writer.proofs.Puts.{row_some, row_none, row_size, row_short, put_none, put_then, put_length, head_length, field_head}
use Rattle.writer.proofs.small.Writer.put_row.Goals as goal

pub size-requires : goal.size-requires
size-requires c = row_short c.args.row c.in-Some.is c.requires.0

pub put_head-requires : goal.put_head-requires
put_head-requires c =
    let size = row_size c.args.row c.in-Some.is in
    (omega (arith, row_short c.args.row c.in-Some.is c.requires.0, c.size.ensures), omega (arith, c.requires.1, size))

pub put_body-requires : goal.put_body-requires
put_body-requires c =
    omega (arith, c.requires.1, row_size c.args.row c.in-Some.is, c.put_head.ensures.put.next, head_length c.args.row.tag c.size.result, put_length c.put_head.ensures.put)

pub returns-in-Some : goal.returns-in-Some
returns-in-Some c =
    record {
      put = put_then _ _ _ c.put_head.ensures.put c.put_body.ensures.put (row_some c.args.row c.in-Some.is ∙ field_head c.args.row.tag c.size.result (body_of c.in-Some.item) (sym c.size.ensures));
      same = c.put_body.ensures.same ∙ c.put_head.ensures.same;
    }

pub returns-in_default : goal.returns-in_default
returns-in_default c = record { put = rw (row_none c.args.row c.in_default.is) (put_none _ _); same = refl }
