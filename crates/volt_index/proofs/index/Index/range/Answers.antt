use Rattle.std.proofs.Common.{List, ℕ, map, ◌&&◌, ap, ◌∙◌}
use Rattle.std.specs.Option.{option_map}
use Rattle.std.specs.BTreeMap.Range.{range_contains}
use Rattle.std.specs.Range.Bound.{bound_map}
use Rattle.volt_index.specs.Entries.{entry_cmp}
use Rattle.volt_index.specs.Index.{is_from, is_before}
use Rattle.volt_index.proofs.IndexLemmas.{filter_shown}
use Rattle.volt_index.proofs.index.Index.range.Goals as goal

pub returns : goal.returns
returns c =
    let from = option_map (λ key. key.now) c.args.from in
    let to = option_map (λ key. key.now) c.args.to in
    rw (← c.self.view_is) (ap (map (λ (e : (List ℕ × ℕ) × ℕ). e.1)) (c.range.ensures.between tt)
    ∙ filter_shown (range_contains entry_cmp (bound_map (λ e. e.now) c.bounds.result.0) (bound_map (λ e. e.now) c.bounds.result.1))
    (λ key. is_from from key && is_before to key) c.self.inside.map.entries c.bounds.ensures.contains)
