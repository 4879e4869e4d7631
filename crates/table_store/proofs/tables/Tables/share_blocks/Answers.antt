use Rattle.std.proofs.Common.{◌≡◌, ◌+◌, ◌<◌, ◌++◌, List, [], ◌∷◌, length, take, suc, sym, ap, ◌∙◌, subst, arith}
use Rattle.tuple_block.specs.Tuples.{Tuples}
use Rattle.table_store.specs.Steps.{Store, table_at}
use Rattle.table_rows.specs.Standing.{IsScanOf}
use Rattle.table_store.specs.Scans.{AreScans}
use Rattle.table_store.proofs.ScanLemmas.{scans_push}
use Rattle.table_store.proofs.tables.Tables.share_blocks.Goals as goal

pub loop-at-preserved : goal.loop-at-preserved
loop-at-preserved c =
    let now = c.args.self.now.now in
    let at = c.loop-at.at in
    let next : suc at ≡ at + 1 = omega arith in
    let within : at < length now = rw (← c.self.view_is) (let whole = c.self.inside.tables.ok.0 in let end = c.len-at-end.ensures in let test = c.loop-at-test.true in omega arith) in
    let scan = subst (λ (s : Store). IsScanOf (table_at s.now at) c.in_ok-share.field-0) c.loop-at.invariant.same c.in_ok-share.ensures.scan in
    record {
      scans = subst (AreScans (take (at + 1) now)) (sym c.in_ok-push.ensures.items)
          (subst (λ n. AreScans (take n now) (c.loop-at.scans.items ++ c.in_ok-share.field-0 ∷ [])) next (scans_push now at c.loop-at.scans.items c.in_ok-share.field-0 within c.loop-at.invariant.scans scan));
      same = c.share.ensures.kept ∙ c.loop-at.invariant.same;
    }
