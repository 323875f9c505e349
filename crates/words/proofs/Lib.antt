mod Numbers
mod Options
mod Rule
