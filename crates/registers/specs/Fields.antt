-- Flat registers that differ in the fields named; every other field stays.
use Rattle.std.specs.Prelude.{ℕ}
use Rattle.registers.specs.declared.Registers.{Registers}

abbrev pub set_a : ℕ → Registers → Registers
set_a a r = record { a = a; x = r.x; y = r.y; sp = r.sp; pc = r.pc; n = r.n; z = r.z; v = r.v; h = r.h; c = r.c; page = r.page; rest = r.rest; stop = r.stop }

abbrev pub set_x : ℕ → Registers → Registers
set_x x r = record { a = r.a; x = x; y = r.y; sp = r.sp; pc = r.pc; n = r.n; z = r.z; v = r.v; h = r.h; c = r.c; page = r.page; rest = r.rest; stop = r.stop }

abbrev pub set_y : ℕ → Registers → Registers
set_y y r = record { a = r.a; x = r.x; y = y; sp = r.sp; pc = r.pc; n = r.n; z = r.z; v = r.v; h = r.h; c = r.c; page = r.page; rest = r.rest; stop = r.stop }

abbrev pub set_sp : ℕ → Registers → Registers
set_sp sp r = record { a = r.a; x = r.x; y = r.y; sp = sp; pc = r.pc; n = r.n; z = r.z; v = r.v; h = r.h; c = r.c; page = r.page; rest = r.rest; stop = r.stop }

abbrev pub set_pc : ℕ → Registers → Registers
set_pc pc r = record { a = r.a; x = r.x; y = r.y; sp = r.sp; pc = pc; n = r.n; z = r.z; v = r.v; h = r.h; c = r.c; page = r.page; rest = r.rest; stop = r.stop }

abbrev pub set_nz : ℕ → ℕ → Registers → Registers
set_nz n z r = record { a = r.a; x = r.x; y = r.y; sp = r.sp; pc = r.pc; n = n; z = z; v = r.v; h = r.h; c = r.c; page = r.page; rest = r.rest; stop = r.stop }

abbrev pub set_c : ℕ → Registers → Registers
set_c c r = record { a = r.a; x = r.x; y = r.y; sp = r.sp; pc = r.pc; n = r.n; z = r.z; v = r.v; h = r.h; c = c; page = r.page; rest = r.rest; stop = r.stop }

abbrev pub set_vh : ℕ → ℕ → Registers → Registers
set_vh v h r = record { a = r.a; x = r.x; y = r.y; sp = r.sp; pc = r.pc; n = r.n; z = r.z; v = v; h = h; c = r.c; page = r.page; rest = r.rest; stop = r.stop }

abbrev pub set_page : ℕ → Registers → Registers
set_page page r = record { a = r.a; x = r.x; y = r.y; sp = r.sp; pc = r.pc; n = r.n; z = r.z; v = r.v; h = r.h; c = r.c; page = page; rest = r.rest; stop = r.stop }

abbrev pub set_rest : ℕ → Registers → Registers
set_rest rest r = record { a = r.a; x = r.x; y = r.y; sp = r.sp; pc = r.pc; n = r.n; z = r.z; v = r.v; h = r.h; c = r.c; page = r.page; rest = rest; stop = r.stop }

abbrev pub set_stop : ℕ → Registers → Registers
set_stop stop r = record { a = r.a; x = r.x; y = r.y; sp = r.sp; pc = r.pc; n = r.n; z = r.z; v = r.v; h = r.h; c = r.c; page = r.page; rest = r.rest; stop = stop }
