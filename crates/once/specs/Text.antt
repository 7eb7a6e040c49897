-- Each function on a line of text has one outcome.
-- Assumes nothing.
use Rattle.text.proofs.Line as line
use Rattle.once.specs.Law.{One, Answers, Shows, second}
use Rattle.once.specs.Forms.{answers, shows, gives}

pub new_once : Answers line.new.Reads.Post
new_once = record { same = answers }

pub push_once : Answers line.push.Reads.Post
push_once = record { same = answers }

pub text_once : Answers line.text.Reads.Post
text_once = record { same = answers }

pub hex_byte_once : Answers line.hex_byte.Reads.Post
hex_byte_once = record { same = answers }

pub hex_word_once : Answers line.hex_word.Reads.Post
hex_word_once = record { same = answers }

pub hex_short_once : Answers line.hex_short.Reads.Post
hex_short_once = record { same = answers }

pub decimal_once : Answers line.decimal.Reads.Post
decimal_once = record { same = answers }

pub signed_once : Answers line.signed.Reads.Post
signed_once = record { same = answers }

pub give_once : One line.give.Reads.Post (λ κ. second)
give_once = record { same = gives }

pub shown_once : Shows line.shown.Reads.Post
shown_once = record { same = shows }
