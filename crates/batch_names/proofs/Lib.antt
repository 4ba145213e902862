mod BackAgain
mod InTurn
