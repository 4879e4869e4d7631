use Rattle.std.proofs.Common.{Ok, sym, ap, ◌∙◌}
use Rattle.table_store.specs.Steps.{Store, table_at}
use Rattle.table_chunks.specs.Loading.{can_load, loaded_into}
use Rattle.table_chunks.proofs.StoreLemmas.{can_step, load_step, within_step, past_step, more_step, items, left_is, all_loaded}
use Rattle.table_chunks.proofs.loading.put_rows.Goals as goal

pub loop-row-preserved : goal.loop-row-preserved
loop-row-preserved c =
    let start = c.args.tables.now in
    let before = c.loop-row.tables in
    let after = c.put_row.new.tables in
    let kept = c.loop-row.invariant in
    let put = c.in_ok-put_row.ensures.put (ap Ok c.if-not-branch.false) in
    let now = ap (λ (s : Store). s.now) put in
    let can = sym c.in_ok-put_row.ensures.can ∙ c.if-not-branch.false in
    let rest = items c.in-Some.rest.now in
    let left = left_is c.as_slice.result.now c.in-Some.row.now c.in-Some.rest.now c.loop-row.left.now c.as_slice.ensures.value c.in-Some.ensures.cases.0 in
    record {
      within = within_step before.now after.now c.args.number c.as_slice.result.now kept.within now;
      can = can_step before.now after.now c.args.number c.as_slice.result.now rest kept.within now can ∙ ap (can_load (table_at before.now c.args.number)) left ∙ kept.can;
      put = load_step before.now after.now c.args.number c.as_slice.result.now rest kept.within now ∙ ap (loaded_into before.now c.args.number) left ∙ kept.put;
      past = past_step start before after _ kept.past kept.more put;
      more = more_step start before after _ kept.more put;
    }

pub returns-clause-put : goal.returns-clause-put
returns-clause-put c = λ done. all_loaded c.loop-row.tables.now c.args.number c.loop-row.left.now c.in_default.ensures.cases ∙ c.loop-row.invariant.put
