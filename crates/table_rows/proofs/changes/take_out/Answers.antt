use Rattle.std.proofs.Common.{map, refl, ap, ◌∙◌}
use Rattle.row_codec.specs.Packing.{row_of}
use Rattle.table_rows.specs.Spread.{Spread}
use Rattle.table_rows.specs.Keyed.{going}
use Rattle.table_rows.proofs.KeyedChanges.{same_keys}
use Rattle.table_rows.proofs.ChangeLemmas.{same_standing, taken_standing}
use Rattle.table_rows.proofs.changes.take_out.Goals as goal

pub returns-in_err-go-clause-standing : goal.returns-in_err-go-clause-standing
returns-in_err-go-clause-standing c = same_standing c.args.slots.now c.args.slots.now c.args.indexes.now c.go.new.indexes c.requires.standing refl refl c.go.ensures.kept

pub returns-in_err-go-clause-keys : goal.returns-in_err-go-clause-keys
returns-in_err-go-clause-keys c = same_keys c.go.new.indexes c.args.indexes.now c.go.ensures.kept

pub returns-in_err-take-clause-standing : goal.returns-in_err-take-clause-standing
returns-in_err-take-clause-standing c =
    let same = c.in_err-take.ensures.kept in
    same_standing c.args.slots.now c.take.new.self c.args.indexes.now c.go.new.indexes c.requires.standing (ap (λ (s : Spread). s.fields) same) (ap (λ (s : Spread). s.held) same) c.go.ensures.kept

pub returns-in_err-take-clause-keys : goal.returns-in_err-take-clause-keys
returns-in_err-take-clause-keys c = same_keys c.go.new.indexes c.args.indexes.now c.go.ensures.kept

pub returns-clause-standing : goal.returns-clause-standing
returns-clause-standing c =
    let told = c.in_ok-go.ensures.told ∙ ap (λ fields. map (going (row_of fields c.tuple.result.now)) c.args.indexes.now) c.layout.ensures.fields in
    (taken_standing c.args.slots.now c.take.new.self c.args.indexes.now c.go.new.indexes c.leave.new.indexes c.args.place (row_of c.args.slots.now.fields c.tuple.result.now)
    c.layout.ensures.rules c.requires.standing c.tuple.ensures.row told c.in_ok-take.ensures.taken c.leave.ensures).0

pub returns-clause-keys : goal.returns-clause-keys
returns-clause-keys c =
    let told = c.in_ok-go.ensures.told ∙ ap (λ fields. map (going (row_of fields c.tuple.result.now)) c.args.indexes.now) c.layout.ensures.fields in
    (taken_standing c.args.slots.now c.take.new.self c.args.indexes.now c.go.new.indexes c.leave.new.indexes c.args.place (row_of c.args.slots.now.fields c.tuple.result.now)
    c.layout.ensures.rules c.requires.standing c.tuple.ensures.row told c.in_ok-take.ensures.taken c.leave.ensures).1
