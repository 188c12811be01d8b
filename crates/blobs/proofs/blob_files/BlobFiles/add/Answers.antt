use Rattle.std.proofs.Common.{◌≤◌, ◌+◌, length, sym}
use Rattle.std.proofs.lemmas.Bool.{leb-true}
use Rattle.codec.proofs.Writes.{put_part}
use Rattle.tables.specs.Views.{contents}
use Rattle.blobs.proofs.Adds.{holds_more}
use Rattle.blobs.proofs.blob_files.BlobFiles.add.Goals as goal

pub returns-clause-bytes : goal.returns-clause-bytes
returns-clause-bytes c =
    let files = c.args.self.now in
    put_part files.bytes.now c.copy_from_slice.new.self c.args.file.now files.used c.copy_from_slice.ensures.after (leb-true _ _ (sym c.if-not-has_room.ensures))

pub returns-clause-holds : goal.returns-clause-holds
returns-clause-holds c =
    let files = c.args.self.now in
    let file = c.args.file.now in
    let w = c.in_ok-insert.ensures in
    let room : files.used + length file ≤ length files.bytes.now = leb-true _ _ (sym c.if-not-has_room.ensures) in
    let bytes = put_part files.bytes.now c.copy_from_slice.new.self file files.used c.copy_from_slice.ensures.after room in
    λ fs h. holds_more files.used c.args.pointer files.bytes.now file (contents c.args.extents.now) fs room h _ _ bytes w.contents
