use Rattle.std.proofs.Common.{map, refl, ap, ◌∙◌, Some}
use Rattle.std.proofs.lemmas.Result.{err_from_is_err_and}
use Rattle.row_codec.specs.Packing.{row_of}
use Rattle.table_rows.specs.Order.{row_key}
use Rattle.table_rows.specs.Table.{Table, deleted, first_of}
use Rattle.table_rows.specs.Standing.{keys_of}
use Rattle.table_rows.proofs.BackLemmas.{insert_back}
use Rattle.table_rows.specs.Spread.{Spread}
use Rattle.table_rows.specs.Keyed.{coming, kept}
use Rattle.table_rows.proofs.KeyedChanges.{all_unique, same_kept}
use Rattle.table_rows.proofs.ChangeLemmas.{same_standing, same_table, coming_clash, clash_refused, on_err, IsPutIn, put_in_free, put_in_standing, put_in_table}
use Rattle.table_rows.proofs.changes.put_in.Goals as goal

pub returns-in_err-come-clause-standing : goal.returns-in_err-come-clause-standing
returns-in_err-come-clause-standing c = same_standing c.args.slots.now c.args.slots.now c.args.indexes.now c.come.new.indexes c.requires.standing refl refl c.come.ensures.kept

pub returns-in_err-come-clause-kept : goal.returns-in_err-come-clause-kept
returns-in_err-come-clause-kept c = on_err c.from_residual.result (same_table c.args.slots.now c.args.slots.now c.args.indexes.now c.come.new.indexes refl refl c.come.ensures.kept)

pub returns-in_err-place-clause-standing : goal.returns-in_err-place-clause-standing
returns-in_err-place-clause-standing c =
    let same = c.in_err-place.ensures.kept in
    same_standing c.args.slots.now c.ready.new.self c.args.indexes.now c.come.new.indexes c.requires.standing (ap (λ (s : Spread). s.fields) same) (ap (λ (s : Spread). s.held) same) c.come.ensures.kept

pub returns-in_err-place-clause-kept : goal.returns-in_err-place-clause-kept
returns-in_err-place-clause-kept c =
    let same = c.in_err-place.ensures.kept in
    on_err c.from_residual-in_err-place.result
    (same_table c.args.slots.now c.ready.new.self c.args.indexes.now c.come.new.indexes (ap (λ (s : Spread). s.fields) same) (ap (λ (s : Spread). s.held) same) c.come.ensures.kept)

pub enter-requires : goal.enter-requires
enter-requires c = all_unique c.args.slots.now.held c.come.new.indexes (same_kept c.args.slots.now.held c.come.new.indexes c.args.indexes.now c.come.ensures.kept c.requires.standing.kept)

pub returns-in_err-enter-clause-standing : goal.returns-in_err-enter-clause-standing
returns-in_err-enter-clause-standing c =
    let ready = c.in_ok-place.ensures.ready in
    same_standing c.args.slots.now c.ready.new.self c.args.indexes.now c.enter.new.indexes c.requires.standing (ap (λ (s : Spread). s.fields) ready) (ap (λ (s : Spread). s.held) ready)
    (ap (map kept) c.in_err-enter.ensures.kept ∙ c.come.ensures.kept)

pub returns-in_err-enter-clause-refused : goal.returns-in_err-enter-clause-refused
returns-in_err-enter-clause-refused c =
    let told = c.in_ok-come.ensures.told ∙ ap (λ fields. map (coming (row_of fields c.args.tuple.now)) c.args.indexes.now) c.layout.ensures.fields in
    let p = err_from_is_err_and c.from_residual-in_err-enter.result c.from_residual-in_err-enter.ensures.1 in
    rw (p.1, p.2)
    (clash_refused c.args.slots.now c.args.indexes.now c.come.new.indexes (row_of c.args.slots.now.fields c.args.tuple.now) c.in_err-enter.field-0.0
    c.layout.ensures.rules c.requires.standing c.requires.tuple.row told c.in_err-enter.ensures.refused)

pub returns-in_err-enter-clause-kept : goal.returns-in_err-enter-clause-kept
returns-in_err-enter-clause-kept c =
    let ready = c.in_ok-place.ensures.ready in
    on_err c.from_residual-in_err-enter.result
    (same_table c.args.slots.now c.ready.new.self c.args.indexes.now c.enter.new.indexes (ap (λ (s : Spread). s.fields) ready) (ap (λ (s : Spread). s.held) ready)
    (ap (map kept) c.in_err-enter.ensures.kept ∙ c.come.ensures.kept))

pub returns : goal.returns
returns c =
    let all = c.args.indexes.now in
    let row = row_of c.args.slots.now.fields c.args.tuple.now in
    let put : IsPutIn c.args.slots.now c.ready.new.self c.accept.new.self all c.come.new.indexes c.enter.new.indexes c.in_ok-place.place row = record {
      spread = c.layout.ensures.rules;
      standing = c.requires.standing;
      fits = c.requires.tuple.row;
      told_is = c.in_ok-come.ensures.told ∙ ap (λ fields. map (coming (row_of fields c.args.tuple.now)) all) c.layout.ensures.fields;
      ready_is = c.in_ok-place.ensures.ready;
      entered_is = c.in_ok-enter.ensures.entered;
      free = c.in_ok-enter.ensures.free;
      place_free = c.accept.ensures.free;
      accepted = c.accept.ensures.accepted;
    } in
    let inserted = put_in_table _ _ _ _ _ _ _ _ put in
    let free = put_in_free _ _ _ _ _ _ _ _ put in
    record {
      standing = put_in_standing _ _ _ _ _ _ _ _ put;
      inserted = inserted;
      back = ap (λ (t : Table). deleted t (row_key (first_of (keys_of all)) row)) inserted
          ∙ insert_back c.args.slots.now all row c.layout.ensures.rules c.requires.standing c.requires.tuple.row free;
      free = free;
      refused = tt;
      kept = tt;
    }
