use Rattle.std.proofs.Common.{◌≤◌, IfSome, length, map, ap, subst}
use Rattle.std.specs.Prelude.{option_map}
use Rattle.table_chunks.specs.Reading.{row_at}
use Rattle.table_chunks.proofs.ReadLemmas.{from_place, read_more, read_within, rows_pushed}
use Rattle.table_chunks.proofs.reading.read_rows.Goals as goal

pub loop-left-preserved : goal.loop-left-preserved
loop-left-preserved c =
    let bytes = c.args.bytes.now in
    let at = c.loop-left.at in
    let inside : c.in-Some.len ≤ length (from_place at bytes) = subst (λ got. IfSome got (λ r. r.1 ≤ length (from_place at bytes))) c.in-Some.is c.in_ok-row.ensures.within in
    record {
      within = read_within bytes at c.in-Some.len c.loop-left.invariant.within inside;
      read = read_more row_at bytes c.loop-left.left at c.in-Some.len c.in-Some.row.items (map (λ row. row.items) c.loop-left.rows.items) _ _ _ c.loop-left-test.true
          c.in_ok-row.ensures.read (ap (option_map (λ r. (r.0.items, r.1))) c.in-Some.is) (rows_pushed c.loop-left.rows.items c.push.new.self.items c.in-Some.row c.in_ok-push.ensures.items) c.loop-left.invariant.read;
    }
