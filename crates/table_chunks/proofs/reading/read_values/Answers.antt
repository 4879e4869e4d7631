use Rattle.std.proofs.Common.{IfSome, subst}
use Rattle.volt_value.specs.Reading.{value_at}
use Rattle.volt_value.specs.Spelling.{BeginsWith}
use Rattle.table_chunks.proofs.ReadLemmas.{from_place, read_more, read_within}
use Rattle.table_chunks.proofs.reading.read_values.Goals as goal

pub loop-left-preserved : goal.loop-left-preserved
loop-left-preserved c =
    let bytes = c.args.bytes.now in
    let at = c.loop-left.at in
    let begins : BeginsWith (from_place at bytes) c.in-Some.value c.in-Some.len = subst (λ got. IfSome got (λ found. BeginsWith (from_place at bytes) found.0 found.1)) c.in-Some.is c.in_ok-value.ensures.found in
    record {
      within = read_within bytes at c.in-Some.len c.loop-left.invariant.within begins.within;
      read = read_more value_at bytes c.loop-left.left at c.in-Some.len c.in-Some.value c.loop-left.values.items c.push.new.self.items _ c.in_ok-value.field-0 c.loop-left-test.true
          c.in_ok-value.ensures.exact c.in-Some.is c.in_ok-push.ensures.items c.loop-left.invariant.read;
    }
