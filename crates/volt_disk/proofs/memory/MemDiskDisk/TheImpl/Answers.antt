use Rattle.std.proofs.lemmas.Result.{on_ok_weaker, on_err_weaker}
use Rattle.volt_disk.specs.Memory.{turn_of}
use Rattle.volt_disk.proofs.MemoryLemmas.{tells_change, TellsSync, tells_sync, TellsNames, tells_names}
use Rattle.volt_disk.proofs.memory.MemDiskDisk.TheImpl.Goals as goal

pub grow-tells : goal.grow-tells
grow-tells c =
    let tells = tells_change _ c.args.file c.result c.args.self.now c.new.self.now c.ensures.exact in
    record {
      grown = on_ok_weaker c.result (λ is _. is) tells.taken;
      failed = on_err_weaker c.result (λ is _. is) tells.failed;
      others = λ _. tells.others;
      dark = λ _. tells.dark;
      counted = c.ensures.counted;
    }

pub write_at-tells : goal.write_at-tells
write_at-tells c =
    let tells = tells_change _ c.args.file c.result c.args.self.now c.new.self.now c.ensures.exact in
    record {
      written = on_ok_weaker c.result (λ is _. is) tells.taken;
      failed = on_err_weaker c.result (λ is _. is) tells.failed;
      others = λ _. tells.others;
      dark = λ _. tells.dark;
      counted = c.ensures.counted;
    }

pub remove-tells : goal.remove-tells
remove-tells c =
    let tells = tells_change _ c.args.file c.result c.args.self.now c.new.self.now c.ensures.exact in
    record {
      removed = on_ok_weaker c.result (λ is _. is) tells.taken;
      failed = on_err_weaker c.result (λ is _. is) tells.failed;
      others = λ _. tells.others;
      dark = λ _. tells.dark;
      counted = c.ensures.counted;
    }

pub sync-tells : goal.sync-tells
sync-tells c =
    let tells : TellsSync c.args.file c.result c.args.self.now c.new.self.now =
    rw (c.ensures.answer, c.ensures.after) (tells_sync (turn_of c.args.self.now) c.args.file c.args.self.now) in
    record {
      synced = on_ok_weaker c.result (λ is _. is) tells.done;
      image = on_ok_weaker c.result (λ is _. is) c.ensures.image;
      failed = on_err_weaker c.result (λ is _. is) tells.failed;
      others = λ _. tells.others;
      counted = c.ensures.counted;
    }

pub sync_names-tells : goal.sync_names-tells
sync_names-tells c =
    let tells : TellsNames c.result c.args.self.now c.new.self.now =
    rw (c.ensures.answer, c.ensures.after) (tells_names (turn_of c.args.self.now) c.args.self.now) in
    record {
      synced = on_ok_weaker c.result (λ is _. is) tells.done;
      failed = on_err_weaker c.result (λ is _. is) tells.failed;
      counted = c.ensures.counted;
    }
