-- The bytes of a reply address. Assumes nothing.
use Rattle.std.specs.Prelude.{ℕ, List}
use Rattle.inline_bytes.specs.Contents.{contents}
use Rattle.reply.specs.declared.ReplyAddress.{ReplyAddress}

abbrev pub bytes_of : ReplyAddress → List ℕ
bytes_of a = contents a.bytes
