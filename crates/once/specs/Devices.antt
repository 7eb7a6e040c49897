-- Each function of a timer, and of all devices, has one outcome.
-- Assumes nothing.
use Rattle.devices.proofs.timer.Timer as timer
use Rattle.devices.proofs.Devices as devices
use Rattle.once.specs.Law.{Answers}
use Rattle.once.specs.Forms.{answers}

pub tick_once : Answers timer.tick.Reads.Post
tick_once = record { same = answers }

pub switch_once : Answers timer.switch.Reads.Post
switch_once = record { same = answers }

pub clear_once : Answers timer.clear.Reads.Post
clear_once = record { same = answers }

pub aim_once : Answers timer.aim.Reads.Post
aim_once = record { same = answers }

pub start_once : Answers devices.start.Reads.Post
start_once = record { same = answers }

pub take_reads_once : Answers devices.take_reads.Reads.Post
take_reads_once = record { same = answers }

pub take_stores_once : Answers devices.take_stores.Reads.Post
take_stores_once = record { same = answers }

pub pass_once : Answers devices.pass.Reads.Post
pass_once = record { same = answers }
