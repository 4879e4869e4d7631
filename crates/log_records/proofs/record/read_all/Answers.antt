use Rattle.std.proofs.Common.{◌≡◌, ◌++◌, ◌∷◌, [], length, rules}
use Rattle.log_records.specs.Records.{records_of}
use Rattle.log_records.proofs.RecordLemmas.{record_takes, record_shorter, read_more, read_end}
use Rattle.log_records.proofs.record.read_all.Goals as goal

pub loop-rest-smaller : goal.loop-rest-smaller
loop-rest-smaller c = record_shorter c.loop-rest.rest.now (c.in_ok-record.record, c.in_ok-record.behind.now) c.loop-rest.invariant.are_bytes c.in_ok-record.ensures

pub loop-rest-preserved : goal.loop-rest-preserved
loop-rest-preserved c =
    let pushed : c.push.new.self.items ≡ c.loop-rest.records.items ++ c.in_ok-record.record ∷ [] = search rules in
    record {
      are_bytes = (record_takes c.loop-rest.rest.now (c.in_ok-record.record, c.in_ok-record.behind.now) c.loop-rest.invariant.are_bytes c.in_ok-record.ensures).0.rest_fits;
      read = read_more (records_of c.args.bytes.now) c.loop-rest.rest.now c.in_ok-record.behind.now c.in_ok-record.record c.loop-rest.records.items c.push.new.self.items
          c.loop-rest.invariant.are_bytes pushed c.in_ok-record.ensures c.loop-rest.invariant.read;
    }

pub returns : goal.returns
returns c =
    let none : length c.loop-rest.rest.now ≡ 0 = search rules in
    read_end (records_of c.args.bytes.now) c.loop-rest.rest.now c.loop-rest.records.items none c.loop-rest.invariant.read
