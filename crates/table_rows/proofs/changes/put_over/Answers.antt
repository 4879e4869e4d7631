use Rattle.std.proofs.Common.{map, refl, ap, sym, subst, true, ◌≡◌, ◌∙◌}
use Rattle.std.specs.List.{list_all}
use Rattle.std.proofs.lemmas.Result.{err_from_is_err_and}
use Rattle.row_codec.specs.Packing.{row_of}
use Rattle.table_rows.specs.Spread.{Spread}
use Rattle.table_rows.specs.Table.{has_columns}
use Rattle.table_rows.specs.Standing.{keys_of}
use Rattle.table_rows.specs.Keyed.{coming, going, compared, kept}
use Rattle.table_rows.proofs.KeyedChanges.{same_keys, same_kept, all_unique}
use Rattle.table_rows.proofs.ChangeLemmas.{same_standing, told_clash, told_refused, moved_standing, backed_kept, on_err}
use Rattle.table_rows.proofs.changes.put_over.Goals as goal

pub returns-in_err-come-clause-standing : goal.returns-in_err-come-clause-standing
returns-in_err-come-clause-standing c = same_standing c.args.slots.now c.args.slots.now c.args.indexes.now c.come.new.indexes c.requires.standing refl refl c.come.ensures.kept

pub returns-in_err-come-clause-keys : goal.returns-in_err-come-clause-keys
returns-in_err-come-clause-keys c = same_keys c.come.new.indexes c.args.indexes.now c.come.ensures.kept

pub go-requires-clause-columns : goal.go-requires-clause-columns
go-requires-clause-columns c =
    subst (λ fields. list_all (has_columns fields) (keys_of c.come.new.indexes) ≡ true) (sym c.layout-2.ensures.fields)
    (ap (list_all (has_columns c.args.slots.now.fields)) (same_keys c.come.new.indexes c.args.indexes.now c.come.ensures.kept) ∙ c.requires.standing.schema.columns)

pub returns-in_err-go-clause-standing : goal.returns-in_err-go-clause-standing
returns-in_err-go-clause-standing c =
    same_standing c.args.slots.now c.args.slots.now c.args.indexes.now c.go.new.indexes c.requires.standing refl refl (c.go.ensures.kept ∙ c.come.ensures.kept)

pub returns-in_err-go-clause-keys : goal.returns-in_err-go-clause-keys
returns-in_err-go-clause-keys c = same_keys c.go.new.indexes c.args.indexes.now (c.go.ensures.kept ∙ c.come.ensures.kept)

pub enter-requires : goal.enter-requires
enter-requires c =
    all_unique c.args.slots.now.held c.compare.new.indexes
    (same_kept c.args.slots.now.held c.compare.new.indexes c.args.indexes.now (c.compare.ensures.kept ∙ c.go.ensures.kept ∙ c.come.ensures.kept) c.requires.standing.kept)

pub returns-in_err-enter-clause-standing : goal.returns-in_err-enter-clause-standing
returns-in_err-enter-clause-standing c =
    same_standing c.args.slots.now c.args.slots.now c.args.indexes.now c.enter.new.indexes c.requires.standing refl refl
    (ap (map kept) c.in_err-enter.ensures.kept ∙ c.compare.ensures.kept ∙ c.go.ensures.kept ∙ c.come.ensures.kept)

pub returns-in_err-enter-clause-keys : goal.returns-in_err-enter-clause-keys
returns-in_err-enter-clause-keys c =
    same_keys c.enter.new.indexes c.args.indexes.now (ap (map kept) c.in_err-enter.ensures.kept ∙ c.compare.ensures.kept ∙ c.go.ensures.kept ∙ c.come.ensures.kept)

pub returns-in_err-enter-clause-refused : goal.returns-in_err-enter-clause-refused
returns-in_err-enter-clause-refused c =
    let came = c.in_ok-come.ensures.told ∙ ap (λ fields. map (coming (row_of fields c.args.tuple.now)) c.args.indexes.now) c.layout.ensures.fields in
    let went = c.in_ok-go.ensures.told ∙ ap (λ fields. map (going (row_of fields c.tuple.result.now)) c.come.new.indexes) c.layout-2.ensures.fields in
    let old = row_of c.args.slots.now.fields c.tuple.result.now in
    let p = err_from_is_err_and c.from_residual-in_err-enter.result c.from_residual-in_err-enter.ensures.1 in
    rw (p.1, p.2)
    (told_refused c.args.slots.now c.args.indexes.now c.compare.new.indexes c.args.place old (row_of c.args.slots.now.fields c.args.tuple.now) c.in_err-enter.field-0.0
    c.layout.ensures.rules c.requires.standing c.tuple.ensures.row c.requires.tuple.row (c.compare.ensures.compared ∙ ap (map compared) (went ∙ ap (map (going old)) came)) c.in_err-enter.ensures.refused)

pub returns-in-Ok-clause-standing : goal.returns-in-Ok-clause-standing
returns-in-Ok-clause-standing c =
    let came = c.in_ok-come.ensures.told ∙ ap (λ fields. map (coming (row_of fields c.args.tuple.now)) c.args.indexes.now) c.layout.ensures.fields in
    let went = c.in_ok-go.ensures.told ∙ ap (λ fields. map (going (row_of fields c.tuple.result.now)) c.come.new.indexes) c.layout-2.ensures.fields in
    let old = row_of c.args.slots.now.fields c.tuple.result.now in
    (moved_standing c.args.slots.now c.put.new.self c.args.indexes.now c.compare.new.indexes c.enter.new.indexes c.leave.new.indexes c.args.place old (row_of c.args.slots.now.fields c.args.tuple.now)
    c.layout.ensures.rules c.requires.standing c.tuple.ensures.row c.requires.tuple.row (c.compare.ensures.compared ∙ ap (map compared) (went ∙ ap (map (going old)) came))
    c.in_ok-enter.ensures.free c.in-Ok.ensures.put c.in_ok-enter.ensures.entered c.leave.ensures).0

pub returns-in-Ok-clause-keys : goal.returns-in-Ok-clause-keys
returns-in-Ok-clause-keys c =
    let came = c.in_ok-come.ensures.told ∙ ap (λ fields. map (coming (row_of fields c.args.tuple.now)) c.args.indexes.now) c.layout.ensures.fields in
    let went = c.in_ok-go.ensures.told ∙ ap (λ fields. map (going (row_of fields c.tuple.result.now)) c.come.new.indexes) c.layout-2.ensures.fields in
    let old = row_of c.args.slots.now.fields c.tuple.result.now in
    (moved_standing c.args.slots.now c.put.new.self c.args.indexes.now c.compare.new.indexes c.enter.new.indexes c.leave.new.indexes c.args.place old (row_of c.args.slots.now.fields c.args.tuple.now)
    c.layout.ensures.rules c.requires.standing c.tuple.ensures.row c.requires.tuple.row (c.compare.ensures.compared ∙ ap (map compared) (went ∙ ap (map (going old)) came))
    c.in_ok-enter.ensures.free c.in-Ok.ensures.put c.in_ok-enter.ensures.entered c.leave.ensures).1

pub returns-in-Ok-clause-free : goal.returns-in-Ok-clause-free
returns-in-Ok-clause-free c =
    let came = c.in_ok-come.ensures.told ∙ ap (λ fields. map (coming (row_of fields c.args.tuple.now)) c.args.indexes.now) c.layout.ensures.fields in
    let went = c.in_ok-go.ensures.told ∙ ap (λ fields. map (going (row_of fields c.tuple.result.now)) c.come.new.indexes) c.layout-2.ensures.fields in
    let old = row_of c.args.slots.now.fields c.tuple.result.now in
    sym (told_clash c.args.slots.now c.args.indexes.now c.compare.new.indexes c.args.place old (row_of c.args.slots.now.fields c.args.tuple.now)
    c.layout.ensures.rules c.requires.standing c.tuple.ensures.row c.requires.tuple.row (c.compare.ensures.compared ∙ ap (map compared) (went ∙ ap (map (going old)) came)))
    ∙ c.in_ok-enter.ensures.free

pub returns-in-Err-clause-standing : goal.returns-in-Err-clause-standing
returns-in-Err-clause-standing c =
    let came = c.in_ok-come.ensures.told ∙ ap (λ fields. map (coming (row_of fields c.args.tuple.now)) c.args.indexes.now) c.layout.ensures.fields in
    let went = c.in_ok-go.ensures.told ∙ ap (λ fields. map (going (row_of fields c.tuple.result.now)) c.come.new.indexes) c.layout-2.ensures.fields in
    let old = row_of c.args.slots.now.fields c.tuple.result.now in
    let row = row_of c.args.slots.now.fields c.args.tuple.now in
    let same = c.in-Err.ensures.kept in
    same_standing c.args.slots.now c.put.new.self c.args.indexes.now c.back_out.new.indexes c.requires.standing (ap (λ (s : Spread). s.fields) same) (ap (λ (s : Spread). s.held) same)
    (backed_kept c.args.slots.now c.args.indexes.now c.compare.new.indexes c.enter.new.indexes c.back_out.new.indexes c.args.place old row c.requires.standing
    (c.compare.ensures.compared ∙ ap (map compared) (went ∙ ap (map (going old)) came)) c.in_ok-enter.ensures.free c.in_ok-enter.ensures.entered c.back_out.ensures)

pub returns-in-Err-clause-keys : goal.returns-in-Err-clause-keys
returns-in-Err-clause-keys c =
    let came = c.in_ok-come.ensures.told ∙ ap (λ fields. map (coming (row_of fields c.args.tuple.now)) c.args.indexes.now) c.layout.ensures.fields in
    let went = c.in_ok-go.ensures.told ∙ ap (λ fields. map (going (row_of fields c.tuple.result.now)) c.come.new.indexes) c.layout-2.ensures.fields in
    let old = row_of c.args.slots.now.fields c.tuple.result.now in
    let row = row_of c.args.slots.now.fields c.args.tuple.now in
    same_keys c.back_out.new.indexes c.args.indexes.now
    (backed_kept c.args.slots.now c.args.indexes.now c.compare.new.indexes c.enter.new.indexes c.back_out.new.indexes c.args.place old row c.requires.standing
    (c.compare.ensures.compared ∙ ap (map compared) (went ∙ ap (map (going old)) came)) c.in_ok-enter.ensures.free c.in_ok-enter.ensures.entered c.back_out.ensures)
