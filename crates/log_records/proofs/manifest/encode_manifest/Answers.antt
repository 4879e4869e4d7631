use Rattle.std.proofs.Common.{◌≡◌, length, length-append, ap, ◌∙◌, arith, rules}
use Rattle.log_records.specs.Manifest.{files_bytes}
use Rattle.log_records.proofs.ManifestLemmas.{length_files, all_fit}
use Rattle.log_records.proofs.manifest.encode_manifest.Goals as goal

pub returns-clause-room : goal.returns-clause-room
returns-clause-room c =
    let head : length c.extend_from_slice-2.new.self.items ≡ 13 = search rules in
    let all = ap length c.in_ok-put_files.ensures ∙ length-append _ (files_bytes c.args.segments.now) in
    omega (arith, all, head, length_files c.args.segments.now)

pub returns-clause-fits : goal.returns-clause-fits
returns-clause-fits c = record {
  base = omega (arith, c.ranges.base);
  count = c.requires;
  segments = all_fit c.args.segments.now (λ i. omega (arith, c.type_inv.segments i));
}
